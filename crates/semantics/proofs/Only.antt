-- Document 01 leaves no choice: from a state whose store is listed by rising identifier there is at most one transition or ending, and so at most one
-- derivation's end. What is on top tells Activate, Solve, Drop and a try apart; what is tried has one first instance, or none; and a store is told
-- by its facts, since the identifiers rise.
use Prim.Native.Nat.{ℕ, suc, ◌≤◌}
use native.Mathlib.Omega.{arith}
use mathlib.Core.Bool.{true, false, Bool}
use mathlib.Core.Path.{◌≡◌, refl, sym, ◌∙◌, ap, subst}
use Rattle.std.specs.Prelude.{Option, Some, None}
use mathlib.Core.Logic.{◌⊎◌, inl, inr}
use mathlib.Core.List.Memᴰ
use mathlib.Core.List.{List, [], ◌∷◌, Memᴰ}
use lib.ListN.{length}
use Rattle.model.specs.declared.FactId.{FactId}
use Rattle.model.specs.declared.Fact.{Fact}
use Rattle.model.specs.declared.Item.{Item}
use Rattle.model.specs.declared.Item.TheVariants.{Waiting, Active, Fail}
use Rattle.model.specs.declared.Entry.{Entry}
use Rattle.model.specs.declared.Stored.{Stored}
use Rattle.model.specs.declared.Binding.{Binding}
use Rattle.model.specs.declared.HeadPlace.{HeadPlace}
use Rattle.model.specs.Table.{Table, rule_at}
use Rattle.model.specs.Guards.{guard_value}
use Rattle.model.specs.Steps.{State, waiting, body_entries, Outcome, moves as moves-, fires as fires-, fails as fails-, stops as stops-}
use Rattle.model.proofs.Kept.{Rising}
use Rattle.semantics.specs.Instances.{Matching, firing}
use Rattle.semantics.specs.Refined.{SameSet, Trying, rule_tried, Fires, Solve, Drop, Simplify, Propagate, Default}
use Rattle.semantics.specs.Chosen.{Listed, held, First, Enters, Moves, activates, drops, defaults, FiresFirst, simplifies, propagates}
use Rattle.semantics.specs.Chosen.{rule_fired, Roomy, Undefined, NoBody, StoreFull, StackAbove, HistoryAbove, Stops, undefined, no_body, store_full}
use Rattle.semantics.specs.Chosen.{stack_above, history_above}
use Rattle.semantics.proofs.Alone.{same-symbol, same-id, same-j, tops, same-place, same-try, drop-not-tried, simplify-not-propagate}
use Rattle.semantics.proofs.Occurrence.{above}
use Rattle.semantics.proofs.First.{body-same, SameFirst, one-first}

-- ---- two lists by rising identifier with the same facts are equal

rising-same : (lo hi hi' : ℕ) (xs ys : List Stored) → Rising lo hi xs → Rising lo hi' ys → ((s : Stored) → Memᴰ s xs → Memᴰ s ys)
    → ((s : Stored) → Memᴰ s ys → Memᴰ s xs) → xs ≡ ys
rising-same lo hi hi' [] [] r r' f g = refl
rising-same lo hi hi' [] (y ∷ ys) r r' f g = absurd (Memᴰ.not-nil (g y (Memᴰ.head refl)))
rising-same lo hi hi' (x ∷ xs) [] r r' f g = absurd (Memᴰ.not-nil (f x (Memᴰ.head refl)))
rising-same lo hi hi' (x ∷ xs) (y ∷ ys) r r' f g =
    let e : x ≡ y = first (Memᴰ.cases_cons (f x (Memᴰ.head refl))) (Memᴰ.cases_cons (g y (Memᴰ.head refl))) in
    let i : x.id.0 ≡ y.id.0 = ap (λ (s : Stored). s.id.0) e in
    let es : xs ≡ ys
    = rising-same (suc x.id.0) hi hi' xs ys r.1 (subst (λ (n : ℕ). Rising (suc n) hi' ys) (sym i) r'.1)
    (λ s m. into s m i (Memᴰ.cases_cons (f s (Memᴰ.tail m)))) (λ s m. from s m i (Memᴰ.cases_cons (g s (Memᴰ.tail m)))) in
    λ k. e k ∷ es k
  where
    first : (x ≡ y) ⊎ Memᴰ x ys → (y ≡ x) ⊎ Memᴰ y xs → x ≡ y
    first (inl e) m = e
    first (inr m) (inl e) = sym e
    first (inr m) (inr n) = absurd (omega (arith, above (suc y.id.0) hi' ys x r'.1 m, above (suc x.id.0) hi xs y r.1 n))

    into : (s : Stored) → Memᴰ s xs → x.id.0 ≡ y.id.0 → (s ≡ y) ⊎ Memᴰ s ys → Memᴰ s ys
    into s m i (inl e) = absurd (omega (arith, above (suc x.id.0) hi xs s r.1 m, ap (λ (z : Stored). z.id.0) e, i))
    into s m i (inr n) = n

    from : (s : Stored) → Memᴰ s ys → x.id.0 ≡ y.id.0 → (s ≡ x) ⊎ Memᴰ s xs → Memᴰ s xs
    from s m i (inl e) = absurd (omega (arith, above (suc y.id.0) hi' ys s r'.1 m, ap (λ (z : Stored). z.id.0) e, i))
    from s m i (inr n) = n

-- ---- what is on top: nothing, a waiting fact, an active one or fail

abbrev item_kind : Item → ℕ
item_kind (Waiting f) = 1
item_kind (Active i j) = 2
item_kind Fail = 3

abbrev kind : List Entry → ℕ
kind [] = 0
kind (e ∷ es) = item_kind e.item

state-same : (σ τ : State) → σ.stack ≡ τ.stack → σ.store ≡ τ.store → σ.history ≡ τ.history → σ.next ≡ τ.next → σ ≡ τ
state-same σ τ a b c d = λ i. record { stack = a i; store = b i; history = c i; next = d i }

tail-same : {x y : Entry} {xs ys : List Entry} → x ∷ xs ≡ y ∷ ys → xs ≡ ys
tail-same e = cc

-- two waiting facts on top
waits-same : {c c' : Fact} {xs ys : List Entry} → waiting c ∷ xs ≡ waiting c' ∷ ys → c ≡ c'
waits-same {c} {c'} e =
    let a : waiting c ≡ waiting c' = cc in
    let i : Waiting c ≡ Waiting c' = ap (λ (x : Entry). x.item) a in
    cc i

module _ (t : Table) (σ : State) where
  waits-kind : (c : Fact) (under : List Entry) → σ.stack ≡ waiting c ∷ under → kind σ.stack ≡ 1
  waits-kind c under e = ap kind e

  tries-kind : Trying t σ.stack → kind σ.stack ≡ 2
  tries-kind a = ap kind a.top

  drops-kind : (τ : State) → Drop t σ τ → kind σ.stack ≡ 2
  drops-kind τ s = ap kind s.top

  solve-kind : (τ : State) → Solve t σ τ → kind σ.stack ≡ 3
  solve-kind τ s = ap kind s.top ∙ ap item_kind s.builtin

  moves-kind : (τ : State) → Moves t σ τ → (1 ≤ kind σ.stack) × (kind σ.stack ≤ 2)
  moves-kind τ (activates s) = let e = waits-kind s.step.c s.step.under s.step.top in (omega (arith, e), omega (arith, e))
  moves-kind τ (drops s) = let e = drops-kind τ s in (omega (arith, e), omega (arith, e))
  moves-kind τ (defaults s) = let e = tries-kind s.step.tried in (omega (arith, e), omega (arith, e))

-- ---- two tries of one entry

record SameTry (t : Table) {A : List Entry} (a a' : Trying t A) : Type 0 where
  symbol : a.symbol ≡ a'.symbol
  id : a.id ≡ a'.id
  j : a.j ≡ a'.j
  under : a.under ≡ a'.under

tries-same : (t : Table) {A : List Entry} (a a' : Trying t A) → SameTry t a a'
tries-same t a a' =
    let e = tops t a a' in
    record {
      symbol = same-symbol a.symbol a'.symbol a.id a'.id a.j a'.j a.under a'.under e;
      id = same-id a.symbol a'.symbol a.id a'.id a.j a'.j a.under a'.under e;
      j = same-j a.symbol a'.symbol a.id a'.id a.j a'.j a.under a'.under e;
      under = tail-same e;
    }

true-false : Some true ≡ Some false → ⊥
true-false e = cc

unknown-false : None ≡ Some false → ⊥
unknown-false e = cc

true-unknown : Some true ≡ None → ⊥
true-unknown e = cc

module _ (t : Table) (σ : State) where
  -- ---- a firing: what Simplify and Propagate share

  record Shot (τ : State) : Type 0 where
    tried : Trying t σ.stack
    facts : List Stored
    θ : Binding
    C : List Entry
    first : First t σ tried (Some true) facts θ
    fires : Fires t σ.store τ.store tried.place facts θ C
    listed : Listed τ
    history : τ.history ≡ firing tried.place facts ∷ σ.history
    next : τ.next ≡ σ.next

  abbrev simplify-shot : {τ : State} (s : Simplify t σ τ) → First t σ s.tried (Some true) s.facts s.θ → Listed τ → Shot τ
  simplify-shot s u l = record {
    tried = s.tried;
    facts = s.facts;
    θ = s.θ;
    C = s.C;
    first = u;
    fires = s.fires;
    listed = l;
    history = s.history;
    next = s.next;
  }

  abbrev propagate-shot : {τ : State} (s : Propagate t σ τ) → First t σ s.tried (Some true) s.facts s.θ → Listed τ → Shot τ
  propagate-shot s u l = record {
    tried = s.tried;
    facts = s.facts;
    θ = s.θ;
    C = s.C;
    first = u;
    fires = s.fires;
    listed = l;
    history = s.history;
    next = s.next;
  }

  unfoldable shot : {τ : State} → FiresFirst t σ τ → Shot τ
  shot (simplifies s u l) = simplify-shot s u l
  shot (propagates s u l) = propagate-shot s u l

  module _ (l : Listed σ) (τ τ' : State) (x : Shot τ) (y : Shot τ') where
    both-first : SameFirst (Some true) (Some true) x.facts y.facts x.θ y.θ
    both-first = one-first t σ l x.tried y.tried (Some true) (Some true) x.facts y.facts x.θ y.θ x.first y.first true-false true-false

    place : x.tried.place ≡ y.tried.place
    place = same-place t x.tried y.tried

    C-same : x.C ≡ y.C
    C-same =
        let e : Some x.C ≡ Some y.C
        = sym x.fires.body ∙ body-same x.θ y.θ both-first.part both-first.back (rule_tried t x.tried).body
        ∙ ap (λ (p : HeadPlace). body_entries y.θ (rule_at t p.rule).body) place ∙ y.fires.body in
        cc e

    -- the facts that are left are the same
    left-same : τ.store ≡ τ'.store
    left-same =
        let f = subst (λ (p : HeadPlace). Fires t σ.store τ.store p x.facts x.θ x.C) place x.fires in
        let u = (subst (λ (ss : List Stored). Fires t σ.store τ.store y.tried.place ss x.θ x.C) both-first.same f).store in
        let v = y.fires.store in
        rising-same 1 τ.next τ'.next τ.store τ'.store x.listed y.listed
        (λ s m. v.left s (u.taken s m) (u.apart s m)) (λ s m. u.left s (v.taken s m) (v.apart s m))

    shot-same : τ.stack ≡ τ'.stack → τ ≡ τ'
    shot-same e =
        state-same τ τ' e left-same (x.history ∙ (λ k. firing (place k) (both-first.same k) ∷ σ.history) ∙ sym y.history) (x.next ∙ sym y.next)

  fires-one : Listed σ → (τ τ' : State) → FiresFirst t σ τ → FiresFirst t σ τ' → τ ≡ τ'
  fires-one l τ τ' (simplifies s u i) (simplifies s' u' i') =
      let x = simplify-shot s u i in
      let y = simplify-shot s' u' i' in
      let a = tries-same t s.tried s'.tried in
      let c : s.C ≡ s'.C = C-same l τ τ' x y in
      shot-same l τ τ' x y (rw (s.stack, s'.stack, c, a.under))
  fires-one l τ τ' (simplifies s u i) (propagates s' u' i') = absurd (simplify-not-propagate t σ τ τ' s s')
  fires-one l τ τ' (propagates s u i) (simplifies s' u' i') = absurd (simplify-not-propagate t σ τ' τ s' s)
  fires-one l τ τ' (propagates s u i) (propagates s' u' i') =
      let x = propagate-shot s u i in
      let y = propagate-shot s' u' i' in
      let a = tries-same t s.tried s'.tried in
      let c : s.C ≡ s'.C = C-same l τ τ' x y in
      shot-same l τ τ' x y (rw (s.stack, s'.stack, c, a.symbol, a.id, a.j, a.under))

  fires-rule : (τ τ' : State) (f : FiresFirst t σ τ) (f' : FiresFirst t σ τ') → (rule_fired t f).0 ≡ (rule_fired t f').0
  fires-rule τ τ' (simplifies s u i) (simplifies s' u' i') = ap (λ (p : HeadPlace). p.rule.0) (same-place t s.tried s'.tried)
  fires-rule τ τ' (simplifies s u i) (propagates s' u' i') = ap (λ (p : HeadPlace). p.rule.0) (same-place t s.tried s'.tried)
  fires-rule τ τ' (propagates s u i) (simplifies s' u' i') = ap (λ (p : HeadPlace). p.rule.0) (same-place t s.tried s'.tried)
  fires-rule τ τ' (propagates s u i) (propagates s' u' i') = ap (λ (p : HeadPlace). p.rule.0) (same-place t s.tried s'.tried)

  -- ---- the steps that are no firing

  enters-one : (τ τ' : State) → Enters t σ τ → Enters t σ τ' → τ ≡ τ'
  enters-one τ τ' s s' =
      let e = sym s.step.top ∙ s'.step.top in
      let c : s.step.c ≡ s'.step.c = waits-same e in
      let under : s.step.under ≡ s'.step.under = tail-same e in
      let u = subst (λ (f : Fact). SameSet τ.store (record { id = record { 0 = σ.next }; fact = f } ∷ σ.store)) c s.step.store in
      let v = s'.step.store in
      state-same τ τ' (rw (s.step.stack, s'.step.stack, c, under))
      (rising-same 1 τ.next τ'.next τ.store τ'.store s.listed s'.listed (λ x m. v.1 x (u.0 x m)) (λ x m. u.1 x (v.0 x m)))
      (s.step.history ∙ sym s'.step.history) (s.step.next ∙ sym s'.step.next)

  drops-one : (τ τ' : State) → Drop t σ τ → Drop t σ τ' → τ ≡ τ'
  drops-one τ τ' s s' =
      state-same τ τ' (tail-same (sym s.top ∙ s'.top)) (s.store ∙ sym s'.store) (s.history ∙ sym s'.history) (s.next ∙ sym s'.next)

  defaults-one : (τ τ' : State) → Default t σ τ → Default t σ τ' → τ ≡ τ'
  defaults-one τ τ' s s' =
      let a = tries-same t s.tried s'.tried in
      state-same τ τ' (rw (s.stack, s'.stack, a.symbol, a.id, a.j, a.under)) (s.store ∙ sym s'.store)
      (s.history ∙ sym s'.history) (s.next ∙ sym s'.next)

  moves-one : (τ τ' : State) → Moves t σ τ → Moves t σ τ' → τ ≡ τ'
  moves-one τ τ' (activates s) (activates s') = enters-one τ τ' s s'
  moves-one τ τ' (activates s) (drops s') =
      absurd (omega (arith, waits-kind t σ s.step.c s.step.under s.step.top, drops-kind t σ τ' s'))
  moves-one τ τ' (activates s) (defaults s') =
      absurd (omega (arith, waits-kind t σ s.step.c s.step.under s.step.top, tries-kind t σ s'.step.tried))
  moves-one τ τ' (drops s) (activates s') =
      absurd (omega (arith, waits-kind t σ s'.step.c s'.step.under s'.step.top, drops-kind t σ τ s))
  moves-one τ τ' (drops s) (drops s') = drops-one τ τ' s s'
  moves-one τ τ' (drops s) (defaults s') = absurd (drop-not-tried t σ τ τ' s s'.step.tried)
  moves-one τ τ' (defaults s) (activates s') =
      absurd (omega (arith, waits-kind t σ s'.step.c s'.step.under s'.step.top, tries-kind t σ s.step.tried))
  moves-one τ τ' (defaults s) (drops s') = absurd (drop-not-tried t σ τ' τ s' s.step.tried)
  moves-one τ τ' (defaults s) (defaults s') = defaults-one τ τ' s.step s'.step

-- ---- one transition or ending

-- an instance that is left, with guard g
record Left (t : Table) (σ : State) (p : HeadPlace) (i : FactId) (facts : List Stored) (θ : Binding) (g : Option Bool) : Type 0 where
  matching : Matching σ.store p (rule_at t p.rule) i facts θ
  fresh : Memᴰ (firing p facts) σ.history → ⊥
  guard : guard_value θ (rule_at t p.rule).guards ≡ g

module _ (t : Table) (σ : State) where
  -- a first instance with guard g
  record Tries (g : Option Bool) : Type 0 where
    tried : Trying t σ.stack
    facts : List Stored
    θ : Binding
    first : First t σ tried g facts θ

  undefined-tries : Undefined t σ → Tries None
  undefined-tries u = record { tried = u.tried; facts = u.facts; θ = u.θ; first = u.first }

  body-tries : NoBody t σ → Tries (Some true)
  body-tries u = record { tried = u.tried; facts = u.facts; θ = u.θ; first = u.first }

  fires-tries : {τ : State} → FiresFirst t σ τ → Tries (Some true)
  fires-tries f = let s = shot t σ f in record { tried = s.tried; facts = s.facts; θ = s.θ; first = s.first }

  -- where one is, no step that is no firing is possible, and no fact waits
  moves-not-tries : (g : Option Bool) → (g ≡ Some false → ⊥) → (τ : State) → Moves t σ τ → Tries g → ⊥
  moves-not-tries g n τ (activates s) x = omega (arith, waits-kind t σ s.step.c s.step.under s.step.top, tries-kind t σ x.tried)
  moves-not-tries g n τ (drops s) x = drop-not-tried t σ τ τ s x.tried
  moves-not-tries g n τ (defaults s) x =
      let left : Left t σ s.step.tried.place s.step.tried.id x.facts x.θ g
      = same-try t x.tried s.step.tried (λ (p : HeadPlace) (i : FactId). Left t σ p i x.facts x.θ g)
      (record { matching = x.first.matching; fresh = x.first.fresh; guard = x.first.guard }) in
      n (sym left.guard ∙ s.passed x.facts x.θ left.matching left.fresh)

  full-not-tries : (g : Option Bool) → StoreFull t σ → Tries g → ⊥
  full-not-tries g u x = omega (arith, waits-kind t σ u.c u.under u.top, tries-kind t σ x.tried)

  full-not-moves : (τ : State) → StoreFull t σ → Moves t σ τ → ⊥
  full-not-moves τ u (activates s) = omega (arith, u.full, s.room)
  full-not-moves τ u (drops s) = omega (arith, waits-kind t σ u.c u.under u.top, drops-kind t σ τ s)
  full-not-moves τ u (defaults s) = omega (arith, waits-kind t σ u.c u.under u.top, tries-kind t σ s.step.tried)

  stops-not-moves : (n p : ℕ) (τ : State) → Stops t σ n p → Moves t σ τ → ⊥
  stops-not-moves n p τ (undefined u) s = moves-not-tries None unknown-false τ s (undefined-tries u)
  stops-not-moves n p τ (no_body u) s = moves-not-tries (Some true) true-false τ s (body-tries u)
  stops-not-moves n p τ (store_full u) s = full-not-moves τ u s
  stops-not-moves n p τ (stack_above u) s = moves-not-tries (Some true) true-false τ s (fires-tries u.fires)
  stops-not-moves n p τ (history_above u) s = moves-not-tries (Some true) true-false τ s (fires-tries u.fires)

  module _ (l : Listed σ) where
    undefined-not-true : Undefined t σ → Tries (Some true) → ⊥
    undefined-not-true u x =
        true-unknown (sym (one-first t σ l u.tried x.tried None (Some true) u.facts x.facts u.θ x.θ u.first x.first
        unknown-false true-false).guard)

    body-not-fires : (τ : State) → NoBody t σ → FiresFirst t σ τ → ⊥
    body-not-fires τ u f =
        let s = shot t σ f in
        let x = one-first t σ l u.tried s.tried (Some true) (Some true) u.facts s.facts u.θ s.θ u.first s.first true-false true-false in
        let e : None ≡ Some s.C
        = sym u.body ∙ body-same u.θ s.θ x.part x.back (rule_tried t u.tried).body
        ∙ ap (λ (p : HeadPlace). body_entries s.θ (rule_at t p.rule).body) (same-place t u.tried s.tried) ∙ s.fires.body in
        cc e

    stack-as-long : (τ τ' : State) → FiresFirst t σ τ → FiresFirst t σ τ' → length τ.stack ≡ length τ'.stack
    stack-as-long τ τ' f f' = ap (λ (x : State). length x.stack) (fires-one t σ l τ τ' f f')

    history-as-long : (τ τ' : State) → FiresFirst t σ τ → FiresFirst t σ τ'
        → length (held t τ.store τ.history) ≡ length (held t τ'.store τ'.history)
    history-as-long τ τ' f f' = ap (λ (x : State). length (held t x.store x.history)) (fires-one t σ l τ τ' f f')

    stops-not-fires : (n p : ℕ) (τ : State) → Stops t σ n p → FiresFirst t σ τ → Roomy t τ → ⊥
    stops-not-fires n p τ (undefined u) f r = undefined-not-true u (fires-tries f)
    stops-not-fires n p τ (no_body u) f r = body-not-fires τ u f
    stops-not-fires n p τ (store_full u) f r = full-not-tries (Some true) u (fires-tries f)
    stops-not-fires n p τ (stack_above u) f r = omega (arith, u.above, r.stack, stack-as-long u.τ τ u.fires f)
    stops-not-fires n p τ (history_above u) f r = omega (arith, u.above, r.history, history-as-long u.τ τ u.fires f)

    abbrev Alike : ℕ → ℕ → ℕ → ℕ → Type 0
    Alike n p n' p' = (n ≡ n') × (p ≡ p')

    two-above : (u : StackAbove t σ) (v : HistoryAbove t σ) → ⊥
    two-above u v = omega (arith, u.above, v.stack, stack-as-long u.τ v.τ u.fires v.fires)

    stops-one : (n p n' p' : ℕ) → Stops t σ n p → Stops t σ n' p' → Alike n p n' p'
    stops-one n p n' p' (undefined u) (undefined v) = (refl, ap (λ (z : HeadPlace). z.rule.0) (same-place t u.tried v.tried))
    stops-one n p n' p' (undefined u) (no_body v) = absurd (undefined-not-true u (body-tries v))
    stops-one n p n' p' (undefined u) (store_full v) = absurd (full-not-tries None v (undefined-tries u))
    stops-one n p n' p' (undefined u) (stack_above v) = absurd (undefined-not-true u (fires-tries v.fires))
    stops-one n p n' p' (undefined u) (history_above v) = absurd (undefined-not-true u (fires-tries v.fires))
    stops-one n p n' p' (no_body u) (undefined v) = absurd (undefined-not-true v (body-tries u))
    stops-one n p n' p' (no_body u) (no_body v) = (refl, ap (λ (z : HeadPlace). z.rule.0) (same-place t u.tried v.tried))
    stops-one n p n' p' (no_body u) (store_full v) = absurd (full-not-tries (Some true) v (body-tries u))
    stops-one n p n' p' (no_body u) (stack_above v) = absurd (body-not-fires v.τ u v.fires)
    stops-one n p n' p' (no_body u) (history_above v) = absurd (body-not-fires v.τ u v.fires)
    stops-one n p n' p' (store_full u) (undefined v) = absurd (full-not-tries None u (undefined-tries v))
    stops-one n p n' p' (store_full u) (no_body v) = absurd (full-not-tries (Some true) u (body-tries v))
    stops-one n p n' p' (store_full u) (store_full v) = (refl, refl)
    stops-one n p n' p' (store_full u) (stack_above v) = absurd (full-not-tries (Some true) u (fires-tries v.fires))
    stops-one n p n' p' (store_full u) (history_above v) = absurd (full-not-tries (Some true) u (fires-tries v.fires))
    stops-one n p n' p' (stack_above u) (undefined v) = absurd (undefined-not-true v (fires-tries u.fires))
    stops-one n p n' p' (stack_above u) (no_body v) = absurd (body-not-fires u.τ v u.fires)
    stops-one n p n' p' (stack_above u) (store_full v) = absurd (full-not-tries (Some true) v (fires-tries u.fires))
    stops-one n p n' p' (stack_above u) (stack_above v) = (refl, fires-rule t σ u.τ v.τ u.fires v.fires)
    stops-one n p n' p' (stack_above u) (history_above v) = absurd (two-above u v)
    stops-one n p n' p' (history_above u) (undefined v) = absurd (undefined-not-true v (fires-tries u.fires))
    stops-one n p n' p' (history_above u) (no_body v) = absurd (body-not-fires u.τ v u.fires)
    stops-one n p n' p' (history_above u) (store_full v) = absurd (full-not-tries (Some true) v (fires-tries u.fires))
    stops-one n p n' p' (history_above u) (stack_above v) = absurd (two-above v u)
    stops-one n p n' p' (history_above u) (history_above v) = (refl, fires-rule t σ u.τ v.τ u.fires v.fires)

  stops-kind : (n p : ℕ) → Stops t σ n p → (1 ≤ kind σ.stack) × (kind σ.stack ≤ 2)
  stops-kind n p (undefined u) = let e = tries-kind t σ u.tried in (omega (arith, e), omega (arith, e))
  stops-kind n p (no_body u) = let e = tries-kind t σ u.tried in (omega (arith, e), omega (arith, e))
  stops-kind n p (store_full u) = let e = waits-kind t σ u.c u.under u.top in (omega (arith, e), omega (arith, e))
  stops-kind n p (stack_above u) = let e = tries-kind t σ (fires-tries u.fires).tried in (omega (arith, e), omega (arith, e))
  stops-kind n p (history_above u) = let e = tries-kind t σ (fires-tries u.fires).tried in (omega (arith, e), omega (arith, e))

  -- what a state may do with a step left, and what that comes to
  pub data Turn : Type 0 where
    ended : σ.stack ≡ [] → Turn
    failed : (τ : State) → Solve t σ τ → Turn
    stopped : (n p : ℕ) → Stops t σ n p → Turn
    moved : (τ : State) → Moves t σ τ → Turn
    fired : (τ : State) → FiresFirst t σ τ → Roomy t τ → Turn

  abbrev pub outcome_of : Turn → Outcome
  outcome_of (ended e) = stops- 0 0
  outcome_of (failed τ s) = fails-
  outcome_of (stopped n p s) = stops- n p
  outcome_of (moved τ s) = moves- τ
  outcome_of (fired τ s r) = fires- τ

  empty-kind : σ.stack ≡ [] → kind σ.stack ≡ 0
  empty-kind e = ap kind e

  fires-kind : (τ : State) → FiresFirst t σ τ → kind σ.stack ≡ 2
  fires-kind τ f = tries-kind t σ (fires-tries f).tried

  -- two turns come to the same
  pub one-turn : Listed σ → (x y : Turn) → outcome_of x ≡ outcome_of y
  one-turn l (ended e) (ended f) = refl
  one-turn l (ended e) (failed τ s) = absurd (omega (arith, empty-kind e, solve-kind t σ τ s))
  one-turn l (ended e) (stopped n p s) = absurd (omega (arith, empty-kind e, stops-kind n p s))
  one-turn l (ended e) (moved τ s) = absurd (omega (arith, empty-kind e, moves-kind t σ τ s))
  one-turn l (ended e) (fired τ s r) = absurd (omega (arith, empty-kind e, fires-kind τ s))
  one-turn l (failed τ s) (ended e) = absurd (omega (arith, empty-kind e, solve-kind t σ τ s))
  one-turn l (failed τ s) (failed τ' s') = refl
  one-turn l (failed τ s) (stopped n p s') = absurd (omega (arith, solve-kind t σ τ s, stops-kind n p s'))
  one-turn l (failed τ s) (moved τ' s') = absurd (omega (arith, solve-kind t σ τ s, moves-kind t σ τ' s'))
  one-turn l (failed τ s) (fired τ' s' r) = absurd (omega (arith, solve-kind t σ τ s, fires-kind τ' s'))
  one-turn l (stopped n p s) (ended e) = absurd (omega (arith, empty-kind e, stops-kind n p s))
  one-turn l (stopped n p s) (failed τ s') = absurd (omega (arith, solve-kind t σ τ s', stops-kind n p s))
  one-turn l (stopped n p s) (stopped n' p' s') = let e = stops-one l n p n' p' s s' in λ k. stops- (e.0 k) (e.1 k)
  one-turn l (stopped n p s) (moved τ s') = absurd (stops-not-moves n p τ s s')
  one-turn l (stopped n p s) (fired τ s' r) = absurd (stops-not-fires l n p τ s s' r)
  one-turn l (moved τ s) (ended e) = absurd (omega (arith, empty-kind e, moves-kind t σ τ s))
  one-turn l (moved τ s) (failed τ' s') = absurd (omega (arith, solve-kind t σ τ' s', moves-kind t σ τ s))
  one-turn l (moved τ s) (stopped n p s') = absurd (stops-not-moves n p τ s' s)
  one-turn l (moved τ s) (moved τ' s') = ap moves- (moves-one t σ τ τ' s s')
  one-turn l (moved τ s) (fired τ' s' r) = absurd (moves-not-tries (Some true) true-false τ s (fires-tries s'))
  one-turn l (fired τ s r) (ended e) = absurd (omega (arith, empty-kind e, fires-kind τ s))
  one-turn l (fired τ s r) (failed τ' s') = absurd (omega (arith, solve-kind t σ τ' s', fires-kind τ s))
  one-turn l (fired τ s r) (stopped n p s') = absurd (stops-not-fires l n p τ s' s r)
  one-turn l (fired τ s r) (moved τ' s') = absurd (moves-not-tries (Some true) true-false τ' s' (fires-tries s))
  one-turn l (fired τ s r) (fired τ' s' r') = ap fires- (fires-one t σ l τ τ' s s')
