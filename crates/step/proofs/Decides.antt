-- What the top entry comes to: each of the code's answers is what the definition's step says.
use mathlib.Core.Path.{◌≡◌, refl, sym, ap, subst, ◌∙◌}
use mathlib.Core.Bool.{Bool, true, false, cond}
use mathlib.Core.List.{List, [], ◌∷◌, ◌++◌}
use Prim.Native.Nat.{ℕ, zero, suc, ◌+◌, ◌*◌, ◌-◌, ◌<◌, ◌≤◌}
use native.Mathlib.Omega.{arith}
use native.Mathlib.Numerals.{add-one}
use lib.Dec.{eqb, leb, ltb}
use lib.ListN.{get_or, take, drop, length, length-append}
use borrow.Author.Tests.{eq-eqb, le-leb, lt-leb, lt-ltb, le-ltb, eqb-true, eqb-false, leb-false, ltb-true, ltb-false, leb-true}
use Rattle.std.specs.Prelude.{Option, Some, None, Result, Ok, Err, IsErrAnd, ⊤, slice_get}
use Rattle.std.proofs.lemmas.Option.{same_Some, none-some}
use Rattle.model.specs.declared.Fact.{Fact}
use Rattle.model.specs.declared.Occurrence.{Occurrence}
use Rattle.model.specs.declared.Item.{Item}
use Rattle.model.specs.declared.Item.TheVariants.{Waiting, Active, Fail}
use Rattle.occurrences.specs.declared.Rules.{Rules}
use Rattle.occurrences.specs.Counting.{Standing}
use Rattle.occurrences.proofs.Counting.{its-rule, rule-laid}
use Rattle.occurrences.proofs.Marks.{placed-stands}
use Rattle.std.proofs.Common.{Bor}
use mir.Syntax.{w16}
use mir.Val.{Fits as Fits16}
use Rattle.model.specs.declared.FactId.{FactId}
use Rattle.model.specs.declared.Fired.{Fired}
use Rattle.model.specs.declared.Entry.{Entry}
use Rattle.model.specs.declared.Stored.{Stored}
use Rattle.model.specs.declared.Binding.{Binding}
use Rattle.model.specs.declared.HeadPlace.{HeadPlace}
use Rattle.model.specs.declared.RuleShape.{RuleShape}
use Rattle.model.specs.Reading.{read_of, no_shape}
use Rattle.model.specs.Guards.{unbound}
use Rattle.model.specs.Table.{Head, BodyItem, Rule, Table, places, table_of, rule_of, rule_at, heads_start, items_start, heads_from, items_from}
use Rattle.model.specs.Search.{Found, nothing, undefined_guard, applies, fired_of, first_instance}
use Rattle.model.specs.Steps.{State, body_entries, item_entry, cons_defined, gone, keep, pruned, remembered, without, prunes, active_entry, advanced, pop_if}
use Rattle.model.specs.Steps.{is_removed, fired, Outcome, fires, stops, step_with, step_item, within_stack, with_body, with_found, at_place}
use Rattle.model.proofs.Good.{GoodTable, GoodRule, good-table}
use Rattle.model.proofs.Decoded.{rule-at, rule-kept, rule-removed, rule-body, heads-none, heads-first, heads-length, places-few, items-length}
use Rattle.records.proofs.PartsLie.{items-lie}
use Rattle.search.specs.declared.Quest.{Quest}
use Rattle.search.specs.declared.Trial.{Trial}
use Rattle.search.specs.declared.Trial.TheVariants.{Applies, Nothing, UndefinedGuard}
use Rattle.search.specs.Views.{found_as, Posed, Answered}
use Rattle.step.specs.declared.Firing.{Firing}
use Rattle.step.specs.declared.Instance.{Instance}
use Rattle.step.specs.declared.Decision.{Decision}
use Rattle.step.specs.declared.Decision.TheVariants.{Activate, Drop, Default, Fire, Fail as Failing}
use Rattle.step.specs.declared.Ending.{Ending}
use Rattle.step.specs.declared.Ending.TheVariants.{UndefinedGuard as NoGuard, UndefinedArgument, FullStore, FullStack, FullHistory}
use Rattle.step.specs.Outcomes.{stays, below, fired_as, topped, outcome_of, room_of, Fits, Sure, Seen, Decided, ending_number, ending_place}
use Rattle.step.specs.Deciding.{instance_of, apply_of, CameTo, body_of, Applying, Applied, Tried, Attempted}

keep-length : {A : Type 0} (q : A → Bool) (xs : List A) → length (keep q xs) ≤ length xs
unfolding keep
keep-length q [] = omega arith
keep-length {A} q (x ∷ xs) = go (q x) (keep-length q xs)
  where
    go : (b : Bool) → length (keep q xs) ≤ length xs → length {A = A} (elim b [ true ↦ x ∷ keep q xs | false ↦ keep q xs ]) ≤ suc (length xs)
    go true h = omega arith
    go false h = omega arith

pruned-length : (is : List FactId) (fs : List Fired) → length (pruned is fs) ≤ length fs
unfolding pruned
pruned-length is fs = keep-length _ fs

entries-count : (b : Binding) (is : List BodyItem) (es : List Entry) → body_entries b is ≡ Some es → length es ≡ length is
unfolding body_entries
entries-count b [] es e = rw (← same_Some [] _ e) refl
entries-count b (i ∷ is) es e = go (item_entry b i) (body_entries b is) (λ (y : List Entry) q. entries-count b is y q) refl e
  where
    go : (x : Option Entry) (y : Option (List Entry)) → ((l : List Entry) → body_entries b is ≡ Some l → length l ≡ length is)
        → body_entries b is ≡ y → cons_defined x y ≡ Some es → length es ≡ suc (length is)
    go None y h q z = absurd (none-some es z)
    go (Some x) None h q z = absurd (none-some es z)
    go (Some x) (Some y) h q z = rw (← same_Some (x ∷ y) es z) (ap suc (h y q))

err-ok : {A B : Type 0} {x : B} {y : A} → ◌≡◌ {A = Result A B} (Err x) (Ok y) → ⊥
err-ok e = absurd (let z : ◌≡◌ {A = ℕ} 0 1 = cc in omega arith)

ok-same : {A B : Type 0} {x y : A} → ◌≡◌ {A = Result A B} (Ok x) (Ok y) → x ≡ y
ok-same e = cc

err-same : {A B : Type 0} {x y : B} → ◌≡◌ {A = Result A B} (Err x) (Err y) → x ≡ y
err-same e = cc

room-ok : (a b c : Bool) (x y : Ending) {u v w : ⊤} → ◌≡◌ {A = Result ⊤ Ending} (cond a (Err x) (cond b (cond c (Err y) (Ok u)) (Ok v))) (Ok w)
    → (a ≡ false) × (b ≡ true → c ≡ false)
room-ok true b c x y e = absurd (err-ok e)
room-ok false true true x y e = absurd (err-ok e)
room-ok false true false x y e = (refl, λ q. refl)
room-ok false false c x y e = (refl, λ q. absurd (let z : ◌≡◌ {A = ℕ} 0 1 = cc in omega arith))

-- what is left of the stack under the body
left-stack : (kept head : ℕ) (e : Entry) (es : List Entry) → pop_if (leb kept head) e es ≡ cond (ltb head kept) (e ∷ es) es
left-stack kept head e es = go (ltb head kept) refl
  where
    go : (x : Bool) → ltb head kept ≡ x → pop_if (leb kept head) e es ≡ cond (ltb head kept) (e ∷ es) es
    go true q = rw (q, lt-leb kept head (ltb-true head kept q)) refl
    go false q = rw (q, le-leb kept head (ltb-false head kept q)) refl

-- ---- a try at an occurrence that exists

module _ {q : Quest} {under : ℕ} (r : Tried q under) where
  abbrev t : List ℕ
  t = q.table.now

  abbrev g : GoodTable t
  g = good-table t r.good_table

  abbrev shape : RuleShape
  shape = q.shape

  good : GoodRule t (read_of t).symbols shape
  good = subst (GoodRule t (read_of t).symbols) (sym r.is) (g.each q.place.rule.0 r.rule_in)

  pub posed : {b : Binding} → b ≡ unbound → Posed q b
  posed e = record {
    parts_in = good.parts_in;
    few_heads = good.few_heads;
    kept_few = good.kept_few;
    head_in = r.head_in;
    free = e;
  }

  pub applying : Applying t shape under
  applying = record {
    items_in = items-lie t (read_of t).symbols (items_start shape) shape.items good.body_in;
    few_items = good.few_items;
    deep = r.deep;
  }

  abbrev rule : Rule
  rule = rule_at (table_of t) q.place.rule

  rule-is : rule ≡ rule_of t shape
  rule-is = rule-at t g.shapes g.few_rules q.place.rule r.rule_in ∙ ap (rule_of t) (sym r.is)

  kept-count : length rule.kept ≡ shape.kept
  kept-count = ap (λ (x : Rule). length x.kept) rule-is ∙ ap length (rule-kept t shape) ∙ heads-length t (heads_start shape) shape.kept

  removed-is : rule.removed ≡ heads_from t (heads_start shape + 22 * shape.kept) (shape.heads - shape.kept)
  removed-is = ap (λ (x : Rule). x.removed) rule-is ∙ rule-removed t shape

  abbrev Sees : State → Entry → List Entry → Type 0
  Sees st e es = Seen st e es under q.store.now q.past.now

  abbrev step : State → Entry → List Entry → ℕ → Outcome
  step st e es j = at_place prunes (table_of t) st e es q.active j (Some q.place)

  module _ {o : Trial} {chosen : List FactId} {b : Binding}
      (a : Answered (first_instance q.store.now q.past.now q.place (rule_of t shape) q.active) o shape.heads chosen b) where
    abbrev is : List FactId
    is = take shape.heads chosen

    module _ {st : State} {e : Entry} {es : List Entry} (v : Sees st e es) (j : ℕ) where
      by-found : (x : Found) → found_as o is b ≡ x → step st e es j ≡ with_found prunes (table_of t) st e es q.active j q.place x
      by-found x y =
          ap (with_found prunes (table_of t) st e es q.active j q.place)
          (rw (v.stored, v.noted, rule-is) (sym a.answer) ∙ y)

    pub defaults : {next : Occurrence} {f : Firing} → o ≡ Nothing → Attempted q under next f (Ok (Default next))
    unfolding found_as outcome_of advanced topped Sure
    defaults y = record { same = λ st e es j it n v. by-found v j nothing (rw y refl) ∙ rw (it, n) refl; sure = tt }

    pub no-value : {next : Occurrence} {f : Firing} → o ≡ UndefinedGuard → Attempted q under next f (Err (NoGuard q.place.rule))
    unfolding found_as outcome_of Sure
    no-value y = record { same = λ st e es j it n v. by-found v j undefined_guard (rw y refl); sure = tt }

    -- ---- a firing

    module _ (oe : o ≡ Applies) where
      abbrev firing : Instance
      firing = instance_of q

      abbrev noted : ℕ
      noted = length q.past.now

      abbrev entries : Option (List Entry)
      entries = body_of q b

      module _ {st : State} {e : Entry} {es : List Entry} (v : Sees st e es) (j : ℕ) where
        after : List Entry → State
        after body = fired prunes st e es q.place rule is body

        fires-by : step st e es j ≡ with_body prunes (table_of t) st e es q.place is entries
        unfolding found_as
        fires-by =
            let body : body_entries b rule.body ≡ entries = ap (body_entries b) (ap (λ (x : Rule). x.body) rule-is ∙ rule-body t shape) in
            by-found v j (applies is b) (rw oe refl) ∙ ap (with_body prunes (table_of t) st e es q.place is) body

        low-is : pop_if (is_removed rule q.place.head) e es ≡ cond (stays firing) (e ∷ es) es
        unfolding is_removed
        low-is = rw kept-count (left-stack shape.kept q.place.head e es)

        gone-is : gone rule is ≡ drop shape.kept is
        unfolding gone
        gone-is = ap (λ (x : ℕ). drop x is) kept-count

        adds : shape.kept ≡ shape.heads
            → remembered rule.removed (fired_of q.place.rule is) (gone rule is) st.history ≡ st.history ++ (fired_of q.place.rule is ∷ [])
        adds y = let z : shape.heads - shape.kept ≡ 0 = omega arith in rw (removed-is, z, heads-none t (heads_start shape + 22 * shape.kept)) refl

        forgets : (shape.kept ≡ shape.heads → ⊥)
            → remembered rule.removed (fired_of q.place.rule is) (gone rule is) st.history ≡ pruned (drop shape.kept is) st.history
        forgets y =
            let some-left : 0 < shape.heads - shape.kept = omega (arith, good.kept_few, y) in
            ap (λ (x : List Head). remembered x (fired_of q.place.rule is) (gone rule is) st.history)
            (removed-is ∙ heads-first t (heads_start shape + 22 * shape.kept) (shape.heads - shape.kept) some-left)
            ∙ ap (λ (y : List FactId). pruned y st.history) gone-is

        history-is : remembered rule.removed (fired_of q.place.rule is) (gone rule is) st.history
            ≡ cond (eqb shape.kept shape.heads) (st.history ++ (fired_of q.place.rule is ∷ [])) (pruned (drop shape.kept is) st.history)
        history-is = go (eqb shape.kept shape.heads) refl
          where
            go : (x : Bool) → eqb shape.kept shape.heads ≡ x → remembered rule.removed (fired_of q.place.rule is) (gone rule is) st.history
                ≡ cond x (st.history ++ (fired_of q.place.rule is ∷ [])) (pruned (drop shape.kept is) st.history)
            go true y = adds (eqb-true shape.kept shape.heads y)
            go false y = forgets (eqb-false shape.kept shape.heads y)

        after-is : (body : List Entry) → after body ≡ fired_as st e es firing is body
        unfolding after fired fired_as
        after-is body = λ k. record {
          stack = body ++ low-is k;
          store = without (gone-is k) st.store;
          history = history-is k;
          next = st.next;
        }

        stack-count : (body : List Entry) → length body ≡ shape.items → length (after body).stack ≡ below firing under + shape.items
        unfolding after fired
        stack-count body l =
            ap (λ (x : List Entry). length (body ++ x)) low-is ∙ length-append body (cond (stays firing) (e ∷ es) es)
            ∙ omega (arith, l, low-count (stays firing))
          where
            low-count : (x : Bool) → length (cond x (e ∷ es) es) ≡ cond x (under + 1) under
            low-count true = omega (arith, v.deep)
            low-count false = v.deep

        noted-count : length st.history ≡ noted
        noted-count = ap length v.noted

        history-adds : shape.kept ≡ shape.heads → (body : List Entry) → length (after body).history ≡ noted + 1
        unfolding after fired
        history-adds y body = ap length (adds y) ∙ length-append st.history (fired_of q.place.rule is ∷ []) ∙ omega (arith, noted-count)

        history-few : (shape.kept ≡ shape.heads → ⊥) → (body : List Entry) → length (after body).history ≤ 256
        unfolding after fired
        history-few y body = omega (arith, ap length (forgets y), pruned-length (drop shape.kept is) st.history, noted-count, r.few_noted)

        -- what a firing's room says
        said : List Entry → Result ⊤ Ending → Outcome
        said body (Ok u) = fires (fired_as st e es firing is body)
        said body (Err x) = stops (ending_number x) (ending_place x)

        module _ {body : List Entry} (be : entries ≡ Some body) (count : length body ≡ shape.items) where
          by-room : step st e es j ≡ within_stack prunes (leb (below firing under + shape.items) 256) q.place.rule (after body)
          unfolding after
          by-room =
              fires-by ∙ ap (with_body prunes (table_of t) st e es q.place is) be
              ∙ ap (λ (x : ℕ). within_stack prunes (leb x 256) q.place.rule (after body)) (stack-count body count)

          has-room : below firing under + shape.items ≤ 256 → length (after body).history ≤ 256 → step st e es j ≡ fires (fired_as st e es firing is body)
          has-room d l =
              by-room ∙ rw (le-leb (below firing under + shape.items) 256 d, le-leb (length (after body).history) 256 l) refl
              ∙ ap fires (after-is body)

          says : step st e es j ≡ said body (room_of firing under noted)
          unfolding said
          says = by-stack (ltb 256 (below firing under + shape.items)) refl
            where
              by-history : below firing under + shape.items ≤ 256 → (y x : Bool) → eqb shape.kept shape.heads ≡ y → leb 256 noted ≡ x
                  → step st e es j ≡ said body (cond y (cond x (Err (FullHistory q.place.rule)) (Ok tt)) (Ok tt))
              by-history d true true y l =
                  by-room ∙ rw (
                    le-leb (below firing under + shape.items) 256 d,
                    history-adds (eqb-true shape.kept shape.heads y) body,
                    lt-leb (noted + 1) 256 (omega (arith, leb-true 256 noted l)),
                  ) refl
              by-history d true false y l =
                  has-room d (omega (arith, history-adds (eqb-true shape.kept shape.heads y) body, leb-false 256 noted l))
              by-history d false x y l = has-room d (history-few (eqb-false shape.kept shape.heads y) body)

              by-stack : (x : Bool) → ltb 256 (below firing under + shape.items) ≡ x
                  → step st e es j ≡ said body (cond x (Err (FullStack q.place.rule))
                  (cond (eqb shape.kept shape.heads) (cond (leb 256 noted) (Err (FullHistory q.place.rule)) (Ok tt)) (Ok tt)))
              by-stack true over = by-room ∙ rw (lt-leb (below firing under + shape.items) 256 (ltb-true 256 (below firing under + shape.items) over)) refl
              by-stack false fits =
                  by-history (ltb-false 256 (below firing under + shape.items) fits) (eqb shape.kept shape.heads) (leb 256 noted) refl refl

        lacks : entries ≡ None → step st e es j ≡ stops 4 q.place.rule.0
        lacks y = fires-by ∙ ap (with_body prunes (table_of t) st e es q.place is) y

      body-count : {body : List Entry} → entries ≡ Some body → length body ≡ shape.items
      body-count e = entries-count b (items_from t (items_start shape) shape.items) _ e ∙ items-length t (items_start shape) shape.items

      fits : {u : ⊤} → room_of firing under noted ≡ Ok u → Fits firing under noted
      fits e =
          let w = room-ok (ltb 256 (below firing under + shape.items)) (eqb shape.kept shape.heads) (leb 256 noted) _ _ e in
          record {
            few_heads = good.few_heads;
            few_items = good.few_items;
            kept_few = good.kept_few;
            stack_fits = ltb-false 256 (below firing under + shape.items) w.0;
            history_fits = λ same. leb-false 256 noted (w.1 (eq-eqb shape.kept shape.heads same));
          }

      -- what an instance that applies comes to is what the step says
      module _ {f₀ f : Firing} {d : Result Instance Ending} (w : Applied q under f₀ f d) (fb : f₀.binding ≡ b) (fc : f₀.chosen ≡ chosen) where
        same-body : body_of q f₀.binding ≡ entries
        same-body = ap (body_of q) fb

        comes : d ≡ apply_of firing (room_of firing under noted) entries
        comes = w.is ∙ ap (apply_of firing (room_of firing under noted)) same-body

        made : CameTo (take shape.items f.body) entries
        made = subst (CameTo (take shape.items f.body)) same-body w.body

        chose : take shape.heads f.chosen ≡ is
        chose = ap (take shape.heads) (w.chosen ∙ fc)

        pub fires-ok : {next : Occurrence} {g' : Instance} → d ≡ Ok g' → Attempted q under next f (Ok (Fire g'))
        unfolding outcome_of Sure said
        fires-ok {next} {g'} e = by-body entries refl made (sym e ∙ comes)
          where
            by-room : {body : List Entry} → entries ≡ Some body → body ≡ take shape.items f.body → (x : Result ⊤ Ending) → room_of firing under noted ≡ x
                → ◌≡◌ {A = Result Instance Ending} (Ok g') (apply_of firing x (Some body)) → Attempted q under next f (Ok (Fire g'))
            by-room {body} be m (Ok u) re z =
                let at : g' ≡ firing = ok-same z in
                record {
                  same = λ st e es j it n v. says v j be (body-count be) ∙ rw (at, re, chose, m) refl;
                  sure = rw at (fits re);
                }
            by-room be m (Err x) re z = absurd (err-ok (sym z))

            by-body : (x : Option (List Entry)) → entries ≡ x → CameTo (take shape.items f.body) x
                → ◌≡◌ {A = Result Instance Ending} (Ok g') (apply_of firing (room_of firing under noted) x) → Attempted q under next f (Ok (Fire g'))
            by-body None be m z = absurd (err-ok (sym z))
            by-body (Some body) be m z = by-room be m (room_of firing under noted) refl z

        pub fires-err : (next : Occurrence) {x' : Ending} → d ≡ Err x' → Attempted q under next f (Err x')
        unfolding outcome_of Sure said
        fires-err next {x'} e = by-body entries refl (sym e ∙ comes)
          where
            by-room : {body : List Entry} → entries ≡ Some body → (x : Result ⊤ Ending) → room_of firing under noted ≡ x
                → ◌≡◌ {A = Result Instance Ending} (Err x') (apply_of firing x (Some body)) → Attempted q under next f (Err x')
            by-room be (Ok u) re z = absurd (err-ok z)
            by-room be (Err x) re z =
                let at : x' ≡ x = err-same z in
                record { same = λ st e es j it n v. says v j be (body-count be) ∙ rw (at, re) refl; sure = tt }

            by-body : (x : Option (List Entry)) → entries ≡ x
                → ◌≡◌ {A = Result Instance Ending} (Err x') (apply_of firing (room_of firing under noted) x) → Attempted q under next f (Err x')
            by-body None be z =
                let at : x' ≡ UndefinedArgument q.place.rule = err-same z in
                record { same = λ st e es j it n v. lacks v j be ∙ rw at refl; sure = tt }
            by-body (Some body) be z = by-room be (room_of firing under noted) refl z

-- ---- the cases of the top entry

module _ {t : Table} {e : Entry} {under : ℕ} {store : List Stored} {history : List Fired} {f : Firing} where
  pub activates : {x : Fact} → e.item ≡ Waiting x → length store < 128 → Decided t e under store history f (Ok Activate)
  unfolding step_with outcome_of Sure
  activates q l = record { same = λ st es v. rw (q, v.stored, lt-ltb (length store) 128 l) refl; sure = l }

  pub store-full : {x : Fact} → e.item ≡ Waiting x → 128 ≤ length store → Decided t e under store history f (Err FullStore)
  unfolding step_with outcome_of Sure
  store-full q l = record { same = λ st es v. rw (q, v.stored, le-ltb (length store) 128 l) refl; sure = tt }

  pub drops : {i : FactId} {j : Occurrence} → e.item ≡ Active i j → slice_get (places t e.symbol) (j.0 - 1) ≡ None → Decided t e under store history f (Ok Drop)
  unfolding step_with outcome_of Sure
  drops q z = record { same = λ st es v. rw (q, z) refl; sure = tt }

  pub fails-there : e.item ≡ Fail → Decided t e under store history f (Ok Failing)
  unfolding step_with outcome_of Sure
  fails-there q = record { same = λ st es v. rw q refl; sure = tt }

-- an index that holds something lies within
held : {A : Type 0} (l : List A) (i : ℕ) (x : A) → slice_get l i ≡ Some x → i < length l
held [] i x e = absurd (none-some x e)
held (y ∷ l) zero x e = omega arith
held (y ∷ l) (suc i) x e = omega (arith, held l i x e)

-- an active fact at an occurrence that exists; the rules are those that the place was looked up in
module _ {r r' : Rules} (same : r' ≡ r) (e : Entry) (j : Occurrence) {found : Option HeadPlace}
    (look : found ≡ slice_get (places (table_of r.table.now) e.symbol) (j.0 - 1)) {p : HeadPlace} (is : found ≡ Some p) where
  at-place : slice_get (places (table_of r'.table.now) e.symbol) (j.0 - 1) ≡ Some p
  at-place = ap (λ (x : Rules). slice_get (places (table_of x.table.now) e.symbol) (j.0 - 1)) same ∙ sym look ∙ is

  stands : Standing r'.table.now p
  stands = placed-stands r'.table.now (good-table r'.table.now r'.countable.good) e.symbol (j.0 - 1) p at-place

  pub rule-among : p.rule.0 < length r'.shapes.now
  rule-among = its-rule r'.countable stands

  pub next-fits : Fits16 w16 (j.0 + 1)
  next-fits =
      let few = places-few r'.table.now (good-table r'.table.now r'.countable.good) e.symbol in
      record { fits = omega (arith, held (places (table_of r'.table.now) e.symbol) (j.0 - 1) p at-place, few) }

  pub tried : {under : ℕ} {store : Bor (List Stored)} {past : Bor (List Fired)} {i : FactId} → under < 256 → length past.now ≤ 256
      → Tried (record { table = r'.table; store = store; past = past; place = p; shape = get_or r'.shapes.now p.rule.0 no_shape; active = i }) under
  tried d n =
      let kept : get_or r'.shapes.now p.rule.0 no_shape ≡ get_or (read_of r'.table.now).shapes p.rule.0 no_shape = rule-laid r'.countable rule-among in
      record {
        good_table = r'.countable.good;
        rule_in = stands.rule_in;
        is = kept;
        head_in = rw kept stands.head_in;
        deep = d;
        few_noted = n;
      }

  pub attempted : {under : ℕ} {store : Bor (List Stored)} {past : Bor (List Fired)} {i : FactId} {shape : RuleShape} {f : Firing}
      {d : Result Decision Ending} → e.item ≡ Active i j
      → Attempted (record { table = r'.table; store = store; past = past; place = p; shape = shape; active = i }) under
      (record { 0 = j.0 + 1 }) f d → Decided (table_of r.table.now) e under store.now past.now f d
  unfolding step_with
  attempted {i = i} q w = record {
    same = λ st es v.
        ap (λ (x : Item). step_item (table_of r.table.now) st e es x) q
        ∙ ap (λ (x : Option HeadPlace). at_place prunes (table_of r.table.now) st e es i j.0 x) (sym look ∙ is)
        ∙ ap (λ (x : Rules). at_place prunes (table_of x.table.now) st e es i j.0 (Some p)) (sym same)
        ∙ w.same st e es j.0 q (ap (λ (n : ℕ). record { 0 = n }) (add-one j.0)) v;
    sure = w.sure;
  }

-- an error that `?` hands on
pub handed : {q : Quest} {under : ℕ} {next : Occurrence} {f : Firing} {x : Ending} → Attempted q under next f (Err x)
    → (r : Result Decision Ending) → IsErrAnd r (λ y. y ≡ x) → Attempted q under next f r
handed a (Ok y) e = absurd e
handed {q} {under} {next} {f} a (Err y) e = subst (λ (z : Ending). Attempted q under next f (Err z)) (sym e) a
