-- The stack's list after a push, and the facts of a goal that are still to be loaded.
use Prim.Native.Nat.{ℕ, zero, suc, ◌-◌, ◌*◌, ◌/◌, ◌<◌, ◌≤◌}
use mathlib.Core.Path.{◌≡◌, refl, ap, ◌∙◌}
use mathlib.Core.List.{List, [], ◌∷◌, ◌++◌, map}
use native.Mathlib.Omega.{arith}
use mathlib.Core.Bool.{cond}
use Rattle.std.specs.Prelude.{reverse}
use lib.ListN.{length, get_or, drop, length-map, drop_of_length-le}
use lib.Seq.{drop-cons}
use Rattle.std.proofs.lemmas.List.{reverse-append}
use borrow.Author.Tests.{eq-eqb}
use Rattle.model.specs.declared.Entry.{Entry}
use Rattle.model.specs.declared.FactId.{FactId}
use Rattle.model.specs.declared.Fired.{Fired}
use Rattle.model.specs.declared.Stored.{Stored}
use Rattle.model.specs.Search.{is_among, fired_of}
use Rattle.step.specs.declared.Instance.{Instance}
use Rattle.model.specs.declared.Fact.{Fact}
use Rattle.model.specs.Goal.{fact_at, goal_of}
use Rattle.model.specs.Steps.{State, waiting, keep, without}
use Rattle.step.specs.Outcomes.{stays, fired_as}
use Rattle.steps.specs.States.{stacked, left_as}
use Rattle.model.proofs.Decoded.{goal-length, goal-at}

pub on-top : (es : List Entry) {es' : List Entry} {e : Entry} → es' ≡ es ++ e ∷ [] → reverse es' ≡ e ∷ reverse es
on-top es {e = e} q = ap reverse q ∙ reverse-append es (e ∷ [])

-- one entry more on a stack
pub one-more : (st : State) {now : State} {es es' : List Entry} {e : Entry} → now ≡ stacked st es → es' ≡ e ∷ now.stack → stacked now es' ≡ stacked st (e ∷ es)
one-more st {now} {e = e} s q = ap (stacked now) q ∙ ap (λ (x : State). stacked x (e ∷ x.stack)) s

module _ (g : List ℕ) where
  count : length (map waiting (goal_of g)) ≡ length g / 18
  count = length-map (goal_of g) waiting ∙ goal-length g

  pub none-loaded : drop (length g / 18) (map waiting (goal_of g)) ≡ []
  none-loaded = drop_of_length-le (map waiting (goal_of g)) {i = length g / 18} (omega (arith, count))

  get-map : (xs : List Fact) (i : ℕ) (d : Fact) → get_or (map waiting xs) i (waiting d) ≡ waiting (get_or xs i d)
  get-map [] i d = refl
  get-map (x ∷ xs) zero d = refl
  get-map (x ∷ xs) (suc i) d = get-map xs i d

  -- the fact before the i-th from the front
  pub one-loaded : (i : ℕ) {f : Fact} → 0 < i → i ≤ length g / 18 → f ≡ fact_at g (18 * (i - 1))
      → drop (i - 1) (map waiting (goal_of g)) ≡ waiting f ∷ drop i (map waiting (goal_of g))
  one-loaded i {f} h l e =
      let d : Fact = record { symbol = record { 0 = 0 }; arguments = [] } in
      let next : suc (i - 1) ≡ i = omega arith in
      drop-cons (map waiting (goal_of g)) (i - 1) (waiting d) (omega (arith, count))
      ∙ rw (get-map (goal_of g) (i - 1) d, goal-at g (i - 1) d (omega arith), next, e) refl

-- ---- a firing that removes nothing

pub keep-all : (ss : List Stored) → without [] ss ≡ ss
unfolding without keep is_among
keep-all [] = refl
keep-all (s ∷ ss) = ap (λ (l : List Stored). s ∷ l) (keep-all ss)

pub none-left : (st : State) (g : Instance) (chosen : List FactId) → g.shape.kept ≡ length chosen → g.shape.heads ≡ length chosen
    → {history : List Fired} → history ≡ st.history ++ fired_of g.place.rule chosen ∷ []
    → ◌≡◌ {A = State} (record { stack = st.stack; store = st.store; history = history; next = st.next }) (left_as st g chosen)
none-left st g chosen k h e =
    let same : g.shape.kept ≡ g.shape.heads = omega (arith, k, h) in
    rw (drop_of_length-le chosen {i = g.shape.kept} (omega (arith, k)), keep-all st.store, eq-eqb g.shape.kept g.shape.heads same, e) refl

-- the body over what is left of the stack, then what leaves store and history
pub fired-so : (st : State) (e : Entry) (g : Instance) (chosen : List FactId) (body : List Entry) {kept pushed left : State}
    → kept ≡ stacked st (cond (stays g) (e ∷ st.stack) st.stack) → pushed ≡ stacked kept (body ++ kept.stack) → left ≡ left_as pushed g chosen
    → left ≡ fired_as st e st.stack g chosen body
unfolding fired_as
fired-so st e g chosen body k p l = l ∙ ap (λ (x : State). left_as x g chosen) (p ∙ ap (λ (x : State). stacked x (body ++ x.stack)) k)
