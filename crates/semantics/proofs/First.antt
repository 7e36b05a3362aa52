-- The first instance is one: two firsts with a guard that is not false, at the same state and entry, have the same facts, bindings that give each
-- variable the same value, and the same guard. For of two different lists of identifiers one comes before the other, and each that comes before a
-- first has a false guard; the identifiers tell the facts, since the store's rise; and the facts tell the least binding.
use Prim.Native.Nat.{ℕ}
use native.Mathlib.Omega.{arith}
use mathlib.Core.Path.{◌≡◌, refl, sym, ◌∙◌, ap, subst}
use mathlib.Core.Bool.{Bool, true, false}
use Rattle.std.specs.Prelude.{Option, Some}
use mathlib.Core.Logic.{◌⊎◌, inl, inr}
use mathlib.Core.List.{List, [], ◌∷◌, Memᴰ}
use lib.IntN.{ℤ}
use lib.Dec.{ltb}
use lib.ListN.{length, length-map}
use borrow.Author.Tests.{ltb-true, ltb-false}
use Rattle.model.specs.declared.FactId.{FactId}
use Rattle.model.specs.declared.Entry.{Entry}
use Rattle.model.specs.declared.Stored.{Stored}
use Rattle.model.specs.declared.Binding.{Binding}
use Rattle.model.specs.declared.HeadPlace.{HeadPlace}
use Rattle.model.specs.declared.Expression.{Expression}
use Rattle.model.specs.Table.{Table, BodyItem, body_fact, body_fail, heads, rule_at}
use Rattle.model.specs.Guards.{expression_value, guard_value}
use Rattle.model.specs.Steps.{State, cons_defined, argument_values, waiting_if, item_entry, body_entries}
use Rattle.model.proofs.Every.{every}
use Rattle.model.proofs.Sound.{ids_of}
use Rattle.model.proofs.Kept.{Rising}
use Rattle.semantics.specs.Instances.{PartOf, HeadsAre, Matching, firing, Before}
use Rattle.semantics.specs.Refined.{Trying}
use Rattle.semantics.specs.Chosen.{Listed, First}
use Rattle.semantics.proofs.Alone.{same-try}
use Rattle.semantics.proofs.Match.{expression-same, guard-same}
use Rattle.semantics.proofs.Occurrence.{same-stored}
use Rattle.semantics.proofs.Following.{heads-count}

-- ---- of two lists of the same length one comes before the other, or they are equal

pub before-total : (is js : List FactId) → length is ≡ length js → Before is js ⊎ ((is ≡ js) ⊎ Before js is)
before-total [] [] e = inr (inl refl)
before-total [] (j ∷ js) e = absurd (omega (arith, e))
before-total (i ∷ is) [] e = absurd (omega (arith, e))
before-total (i ∷ is) (j ∷ js) e = go (ltb i.0 j.0) (ltb j.0 i.0) refl refl (before-total is js (omega (arith, e)))
  where
    same : i ≡ j → Before is js ⊎ ((is ≡ js) ⊎ Before js is) → Before (i ∷ is) (j ∷ js) ⊎ (((i ∷ is) ≡ (j ∷ js)) ⊎ Before (j ∷ js) (i ∷ is))
    same q (inl b) = inl (inr (q, b))
    same q (inr (inl p)) = inr (inl (λ k. q k ∷ p k))
    same q (inr (inr b)) = inr (inr (inr (sym q, b)))

    go : (x y : Bool) → ltb i.0 j.0 ≡ x → ltb j.0 i.0 ≡ y → Before is js ⊎ ((is ≡ js) ⊎ Before js is)
        → Before (i ∷ is) (j ∷ js) ⊎ (((i ∷ is) ≡ (j ∷ js)) ⊎ Before (j ∷ js) (i ∷ is))
    go true y p q ih = inl (inl (ltb-true i.0 j.0 p))
    go false true p q ih = inr (inr (inl (ltb-true j.0 i.0 q)))
    go false false p q ih =
        let n : i.0 ≡ j.0 = omega (arith, ltb-false i.0 j.0 p, ltb-false j.0 i.0 q) in
        same (λ k. record { 0 = n k }) ih

-- stored facts are told by their identifiers
facts-same : (hi : ℕ) (store : List Stored) → Rising 1 hi store → (ss ss' : List Stored) → every (λ s. Memᴰ s store) ss
    → every (λ s. Memᴰ s store) ss' → ids_of ss ≡ ids_of ss' → ss ≡ ss'
facts-same hi store r [] [] u v e = refl
facts-same hi store r [] (s ∷ ss) u v e = absurd (omega (arith, ap length e))
facts-same hi store r (s ∷ ss) [] u v e = absurd (omega (arith, ap length e))
facts-same hi store r (s ∷ ss) (s' ∷ ss') u v e =
    let i : s.id ≡ s'.id = cc in
    let is : ids_of ss ≡ ids_of ss' = cc in
    let p : s ≡ s' = same-stored 1 hi store s s' r u.0 v.0 (ap (λ (j : FactId). j.0) i) in
    let ps : ss ≡ ss' = facts-same hi store r ss ss' u.1 v.1 is in
    λ k. p k ∷ ps k

-- ---- bindings that say the same give a body the same entries

module _ (b c : Binding) (p : PartOf b c) (q : PartOf c b) where
  arguments-same : (es : List Expression) → argument_values b es ≡ argument_values c es
  unfolding argument_values
  arguments-same [] = refl
  arguments-same (e ∷ es) =
      ap (λ (v : Option ℤ). cons_defined v (argument_values b es)) (expression-same b c p q e)
      ∙ ap (λ (vs : Option (List ℤ)). cons_defined (expression_value c e) vs) (arguments-same es)

  item-same : (item : BodyItem) → item_entry b item ≡ item_entry c item
  unfolding item_entry
  item-same (body_fact s es) = ap (λ (vs : Option (List ℤ)). waiting_if s vs) (arguments-same es)
  item-same body_fail = refl

  pub body-same : (items : List BodyItem) → body_entries b items ≡ body_entries c items
  unfolding body_entries
  body-same [] = refl
  body-same (i ∷ items) =
      ap (λ (e : Option Entry). cons_defined e (body_entries b items)) (item-same i)
      ∙ ap (λ (es : Option (List Entry)). cons_defined (item_entry c i) es) (body-same items)

-- ---- the first is one

-- what two firsts have in common
pub record SameFirst (g g' : Option Bool) (facts facts' : List Stored) (θ θ' : Binding) : Type 0 where
  pub same : facts ≡ facts'
  pub part : PartOf θ θ'
  pub back : PartOf θ' θ
  pub guard : g ≡ g'

module _ (t : Table) (σ : State) where
  -- a first, of the place and the identifier
  record At (p : HeadPlace) (i : FactId) (g : Option Bool) (facts : List Stored) (θ : Binding) : Type 0 where
    matching : Matching σ.store p (rule_at t p.rule) i facts θ
    fresh : Memᴰ (firing p facts) σ.history → ⊥
    guard : guard_value θ (rule_at t p.rule).guards ≡ g
    before : (facts' : List Stored) (θ' : Binding) → Matching σ.store p (rule_at t p.rule) i facts' θ' → Before (ids_of facts') (ids_of facts)
        → (Memᴰ (firing p facts') σ.history → ⊥) → guard_value θ' (rule_at t p.rule).guards ≡ Some false

  first-at : (a : Trying t σ.stack) (g : Option Bool) (facts : List Stored) (θ : Binding) → First t σ a g facts θ → At a.place a.id g facts θ
  first-at a g facts θ u = record { matching = u.matching; fresh = u.fresh; guard = u.guard; before = u.before }

  module _ (listed : Listed σ) (p : HeadPlace) (i : FactId) (g g' : Option Bool) (facts facts' : List Stored) (θ θ' : Binding) (u : At p i g facts θ)
      (u' : At p i g' facts' θ') (n : g ≡ Some false → ⊥) (n' : g' ≡ Some false → ⊥) where
    as-long : length (ids_of facts) ≡ length (ids_of facts')
    as-long =
        length-map facts (λ (s : Stored). s.id) ∙ heads-count θ (heads (rule_at t p.rule)) facts u.matching.matched
        ∙ sym (length-map facts' (λ (s : Stored). s.id) ∙ heads-count θ' (heads (rule_at t p.rule)) facts' u'.matching.matched)

    ids-same : ids_of facts ≡ ids_of facts'
    ids-same = go (before-total (ids_of facts) (ids_of facts') as-long)
      where
        go : Before (ids_of facts) (ids_of facts') ⊎ ((ids_of facts ≡ ids_of facts') ⊎ Before (ids_of facts') (ids_of facts)) → ids_of facts ≡ ids_of facts'
        go (inl b) = absurd (n (sym u.guard ∙ u'.before facts θ u.matching b u.fresh))
        go (inr (inl e)) = e
        go (inr (inr b)) = absurd (n' (sym u'.guard ∙ u.before facts' θ' u'.matching b u'.fresh))

    at-same : SameFirst g g' facts facts' θ θ'
    at-same =
        let e = facts-same σ.next σ.store listed facts facts' u.matching.stored u'.matching.stored ids-same in
        let part : PartOf θ θ'
        = u.matching.least θ' (subst (HeadsAre θ' (heads (rule_at t p.rule))) (sym e) u'.matching.matched) in
        let back : PartOf θ' θ
        = u'.matching.least θ (subst (HeadsAre θ (heads (rule_at t p.rule))) e u.matching.matched) in
        record { same = e; part = part; back = back; guard = sym u.guard ∙ guard-same θ θ' part back (rule_at t p.rule).guards ∙ u'.guard }

  -- two firsts with a guard that is not false, for the entry on top
  pub one-first : Listed σ → (a a' : Trying t σ.stack) (g g' : Option Bool) (facts facts' : List Stored) (θ θ' : Binding) → First t σ a g facts θ
      → First t σ a' g' facts' θ' → (g ≡ Some false → ⊥) → (g' ≡ Some false → ⊥) → SameFirst g g' facts facts' θ θ'
  one-first listed a a' g g' facts facts' θ θ' u u' n n' =
      let v : At a'.place a'.id g facts θ = same-try t a a' (λ (p : HeadPlace) (i : FactId). At p i g facts θ) (first-at a g facts θ u) in
      at-same listed a'.place a'.id g g' facts facts' θ θ' v (first-at a' g' facts' θ' u') n n'
