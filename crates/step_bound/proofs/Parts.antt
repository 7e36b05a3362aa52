-- What is counted of a rule is weighed with weights of 0 and 1: each head that has a symbol, and each fact of a body, for 1.
use Prim.Native.Nat.{ℕ, ◌+◌, ◌≤◌}
use mathlib.Core.Path.{◌≡◌, refl, ap}
use mathlib.Core.Bool.{Bool, true, false, cond}
use mathlib.Core.List.{List, [], ◌∷◌}
use native.Mathlib.Omega.{arith}
use Rattle.model.specs.declared.Symbol.{Symbol}
use Rattle.model.specs.Table.{Head, BodyItem, body_fact, body_fail, same_symbol}
use Rattle.model.specs.Weights.{heads_weight, body_weight, body_facts}
use Rattle.rule_weights.specs.Views.{Counted}
use Rattle.step_bound.specs.Views.{heads_with}

abbrev pub is : Symbol → Symbol → ℕ
is s x = cond (same_symbol x s) 1 0

pub heads-with : (s : Symbol) (hs : List Head) → heads_weight (is s) hs ≡ heads_with s hs
unfolding heads_weight heads_with
heads-with s [] = refl
heads-with s (h ∷ hs) = ap (λ (n : ℕ). is s h.symbol + n) (heads-with s hs)

pub is-counted : (s x : Symbol) {r : ℕ} → r ≡ is s x → Counted (is s x) 1 r
is-counted s x e = record { same = e; few = rw e (go (same_symbol x s)) }
  where
    go : (b : Bool) → cond b 1 0 ≤ 1
    go true = omega arith
    go false = omega arith

abbrev pub one : Symbol → ℕ
one x = 1

pub facts-one : (is : List BodyItem) → body_weight one is ≡ body_facts is
unfolding body_weight body_facts
facts-one [] = refl
facts-one (body_fact s es ∷ is) = omega (arith, facts-one is)
facts-one (body_fail ∷ is) = facts-one is
