-- Where every rule has one removed head, the search finds weights if there are any, and the least: no weight is raised above that of any others with
-- which every rule loses weight. For a raise makes the head weigh one more than the body, and the others do that at least, with a body no lighter. So a
-- raise is never above 255, and the search can stop only where weights are found.
use Prim.Native.Nat.{ℕ, suc, ◌+◌, ◌≤◌}
use mathlib.Core.Path.{◌≡◌, refl, sym, ap, ◌∙◌}
use mathlib.Core.List.{List, [], ◌∷◌}
use native.Mathlib.Omega.{arith}
use lib.ListN.{length, get_or, set, replicate}
use borrow.Author.Tests.{le-leb}
use Rattle.std.specs.Prelude.{None}
use Rattle.model.specs.declared.Symbol.{Symbol}
use Rattle.model.specs.Table.{Head, Rule, no_rule, BodyItem, body_fact, body_fail}
use Rattle.model.specs.Weights.{weight_in, heads_weight, body_weight, first_heavy}
use Rattle.model.proofs.Every.{every, every-at}
use Rattle.model.proofs.Weight.{Loses}
use Rattle.model.proofs.Demand3.{all-lose}
use Rattle.raise.specs.Raise.{to, raise_by, raise_of}
use Rattle.raise.proofs.Raising.{to-same, lack}
use Rattle.raises.specs.Search.{most_raises, Sought, found, stopped, search_from, search_of}
use Rattle.raises.proofs.Ends.{Heavy, heavy-at, Ends, ends}
use Rattle.raises.proofs.Accepted.{Each, Weight, set-each, ones-each, Declared, Kept, raise-keeps, all-raised, ones-kept}

abbrev pub OneRemoved : List Rule → Type 0
OneRemoved rules = every (λ (r : Rule). length r.removed ≡ 1) rules

-- no weight above that of vs
abbrev pub Below : List ℕ → List ℕ → Type 0
Below vs ws = Each ws (λ i w. w ≤ get_or vs i 1)

-- ---- a rule with one removed head

record Single (hs : List Head) : Type 0 where
  head : Head
  is : hs ≡ head ∷ []

single : (hs : List Head) → length hs ≡ 1 → Single hs
single [] e = absurd (omega arith)
single (h ∷ []) e = record { head = h; is = refl }
single (h ∷ g ∷ hs) e = absurd (omega arith)

single-weight : (w : Symbol → ℕ) (hs : List Head) (h : Head) → hs ≡ h ∷ [] → heads_weight w hs ≡ w h.symbol
unfolding heads_weight
single-weight w hs h e = ap (heads_weight w) e ∙ omega arith

body-below : (vs ws : List ℕ) → Below vs ws → (is : List BodyItem) → body_weight (weight_in ws) is ≤ body_weight (weight_in vs) is
unfolding body_weight
body-below vs ws b [] = omega arith
body-below vs ws b (body_fact s es ∷ is) = omega (arith, b s.0, body-below vs ws b is)
body-below vs ws b (body_fail ∷ is) = body-below vs ws b is

-- ---- a raise

module _ (rules : List Rule) (one : OneRemoved rules) (vs : List ℕ) (weights : Each vs Weight) (loses : first_heavy (weight_in vs) 0 rules ≡ None) where
  module _ (ws : List ℕ) (below : Below vs ws) (r : ℕ) (h : Heavy (weight_in ws) rules r) where
    abbrev rule : Rule
    rule = get_or rules r no_rule

    head-of : Single rule.removed
    head-of = single rule.removed (every-at (λ (r : Rule). length r.removed ≡ 1) rules r no_rule one h.inside)

    abbrev head : Head
    head = head-of.head

    just-enough : weight_in ws head.symbol + lack ws rule ≤ weight_in vs head.symbol
    just-enough =
        omega (
          arith,
          h.weighs,
          single-weight (weight_in ws) rule.removed head head-of.is,
          single-weight (weight_in vs) rule.removed head head-of.is,
          body-below vs ws below rule.body,
          every-at (Loses (weight_in vs)) rules r no_rule (all-lose (weight_in vs) 0 rules loses) h.inside,
        )

    can-raise : raise_of ws rule ≡ to head.symbol.0 (weight_in ws head.symbol + lack ws rule)
    unfolding raise_of raise_by
    can-raise =
        ap (raise_by ws (lack ws rule)) head-of.is
        ∙ rw (le-leb (weight_in ws head.symbol + lack ws rule) 255 (omega (arith, just-enough, (weights head.symbol.0).high)))

    raise-below : (s x : ℕ) → raise_of ws rule ≡ to s x → x ≤ get_or vs s 1
    raise-below s x e =
        let same = to-same (sym e ∙ can-raise) in
        rw (same.0, same.1) just-enough

-- ---- the search

record Low (symbols : ℕ) (vs : List ℕ) (n : ℕ) (ws : List ℕ) : Type 0 where
  kept : Kept symbols n ws
  below : Below vs ws

-- weights that are found, and none above those of vs
pub record Least (rules : List Rule) (symbols : ℕ) (vs : List ℕ) : Type 0 where
  pub least : List ℕ
  pub is : search_of rules symbols ≡ found least
  pub below : Below vs least

module _ (rules : List Rule) (symbols : ℕ) (declared : Declared rules symbols) (few : symbols ≤ 32) (one : OneRemoved rules) (vs : List ℕ)
    (weights : Each vs Weight)
    (loses : first_heavy (weight_in vs) 0 rules ≡ None) where
  keeps : (n : ℕ) (ws : List ℕ) (r s x : ℕ) → Low symbols vs (suc n) ws → Heavy (weight_in ws) rules r → raise_of ws (get_or rules r no_rule) ≡ to s x
      → Low symbols vs n (set ws s x)
  keeps n ws r s x l h e = record {
    kept = raise-keeps rules symbols declared n ws r s x l.kept h e;
    below = set-each (λ i w. w ≤ get_or vs i 1) ws s x l.below (raise-below rules one vs weights loses ws l.below r h s x e);
  }

  found-least : (o : Sought) → search_of rules symbols ≡ o → Ends rules (Low symbols vs) o → Least rules symbols vs
  found-least (found ws) q e = record { least = ws; is = q; below = e.kept.below }
  found-least (stopped r ws) q e =
      let h = heavy-at (weight_in ws) rules r e.heavy in
      let c = can-raise rules one vs weights loses ws e.kept.below r h in
      let none-left : Kept symbols 0 ws = rw (e.stuck _ _ c) at e.kept.kept in
      absurd (all-raised rules symbols declared ws r _ _ none-left h c)

  pub complete : Least rules symbols vs
  unfolding search_of
  complete =
      found-least (search_from most_raises rules (replicate symbols 1)) refl
      (ends rules (Low symbols vs) keeps most_raises (replicate symbols 1)
      (record { kept = ones-kept symbols few; below = ones-each (λ i w. w ≤ get_or vs i 1) symbols (λ i. (weights i).low) }))
