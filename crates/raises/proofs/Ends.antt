-- How a search ends. The first rule that does not lose weight is a rule of the table whose removed heads weigh no more than its body; so a raise adds
-- something to its first removed head. What holds at the start, and is kept by each raise of such a rule, holds at the end.
use Prim.Native.Nat.{ℕ, zero, suc, ◌+◌, ◌<◌, ◌≤◌}
use mathlib.Core.Path.{◌≡◌, refl, sym, ap, subst}
use mathlib.Core.Bool.{Bool, true, false}
use mathlib.Core.List.{List, [], ◌∷◌}
use native.Mathlib.Omega.{arith}
use lib.Dec.{ltb}
use lib.ListN.{length, get_or, set}
use borrow.Author.Tests.{ltb-false}
use Rattle.std.specs.Prelude.{Option, Some, None}
use Rattle.model.specs.declared.Symbol.{Symbol}
use Rattle.model.specs.declared.RuleNumber.{RuleNumber}
use Rattle.model.specs.Table.{Rule, no_rule}
use Rattle.model.specs.Weights.{weight_in, heads_weight, body_weight, first_heavy}
use Rattle.raise.specs.declared.NewWeight.{NewWeight}
use Rattle.raise.specs.Raise.{to, raise_of}
use Rattle.raises.specs.Search.{Sought, found, stopped, sought_as, raise_then, heavy_then, search_from}

-- ---- the first rule that does not lose weight

pub record Heavy (w : Symbol → ℕ) (rs : List Rule) (n : ℕ) : Type 0 where
  pub inside : n < length rs
  pub weighs : heads_weight w (get_or rs n no_rule).removed ≤ body_weight w (get_or rs n no_rule).body

-- counted from k
record HeavyFrom (w : Symbol → ℕ) (k : ℕ) (rs : List Rule) (n : ℕ) : Type 0 where
  at : ℕ
  is : n ≡ k + at
  heavy : Heavy w rs at

heavy-from : (w : Symbol → ℕ) (k : ℕ) (rs : List Rule) (n : ℕ) → first_heavy w k rs ≡ Some (record { 0 = n }) → HeavyFrom w k rs n
unfolding first_heavy
heavy-from w k [] n e = absurd (let z : ◌≡◌ {A = ℕ} 0 1 = cc in omega arith)
heavy-from w k (r ∷ rs) n e = go (ltb (body_weight w r.body) (heads_weight w r.removed)) refl e (heavy-from w (suc k) rs n)
  where
    go : (b : Bool) → ltb (body_weight w r.body) (heads_weight w r.removed) ≡ b
        → ◌≡◌ {A = Option RuleNumber} (elim b [ true ↦ first_heavy w (suc k) rs | false ↦ Some (record { 0 = k }) ]) (Some (record { 0 = n }))
        → (first_heavy w (suc k) rs ≡ Some (record { 0 = n }) → HeavyFrom w (suc k) rs n) → HeavyFrom w k (r ∷ rs) n
    go true t q later =
        let h = later q in
        record { at = suc h.at; is = omega (arith, h.is); heavy = record { inside = omega (arith, h.heavy.inside); weighs = h.heavy.weighs } }
    go false t q later =
        let same : ◌≡◌ {A = RuleNumber} (record { 0 = k }) (record { 0 = n }) = cc in
        let z : n ≡ k = sym (ap (λ (x : RuleNumber). x.0) same) in
        record { at = 0; is = omega arith; heavy = record { inside = omega arith; weighs = ltb-false (body_weight w r.body) (heads_weight w r.removed) t } }

pub heavy-at : (w : Symbol → ℕ) (rs : List Rule) (n : ℕ) → first_heavy w 0 rs ≡ Some (record { 0 = n }) → Heavy w rs n
heavy-at w rs n e = let h = heavy-from w 0 rs n e in let z : h.at ≡ n = omega (arith, h.is) in subst (Heavy w rs) z h.heavy

-- ---- the end

module _ (rules : List Rule) (P : ℕ → List ℕ → Type 0) where
  -- each raise keeps P, and leaves a raise fewer
  abbrev pub Keeps : Type 0
  Keeps = (n : ℕ) (ws : List ℕ) (r s x : ℕ) → P (suc n) ws → Heavy (weight_in ws) rules r → raise_of ws (get_or rules r no_rule) ≡ to s x → P n (set ws s x)

  pub record Found (ws : List ℕ) : Type 0 where
    pub left : ℕ
    pub kept : P left ws
    pub loses : first_heavy (weight_in ws) 0 rules ≡ None

  -- the rule cannot be raised, unless no raise is left
  pub record Stopped (r : ℕ) (ws : List ℕ) : Type 0 where
    pub left : ℕ
    pub kept : P left ws
    pub heavy : first_heavy (weight_in ws) 0 rules ≡ Some (record { 0 = r })
    pub stuck : (s x : ℕ) → raise_of ws (get_or rules r no_rule) ≡ to s x → left ≡ 0

  abbrev pub Ends : Sought → Type 0
  Ends (found ws) = Found ws
  Ends (stopped r ws) = Stopped r ws

  module _ (keeps : Keeps) where
    no-raise-left : (ws : List ℕ) → P 0 ws → (o : Option RuleNumber) → first_heavy (weight_in ws) 0 rules ≡ o → Ends (sought_as ws o)
    unfolding sought_as
    no-raise-left ws p None e = record { left = 0; kept = p; loses = e }
    no-raise-left ws p (Some r) e = record { left = 0; kept = p; heavy = e; stuck = λ s x q. refl }

    module _ (n : ℕ) (later : (ws : List ℕ) → P n ws → Ends (search_from n rules ws)) (ws : List ℕ) (p : P (suc n) ws) where
      raise-ends : (r : ℕ) → first_heavy (weight_in ws) 0 rules ≡ Some (record { 0 = r }) → (c : Option NewWeight) → raise_of ws (get_or rules r no_rule) ≡ c
          → Ends (raise_then ws r (search_from n rules) c)
      unfolding raise_then
      raise-ends r e (Some x) q = later (set ws x.symbol.0 x.weight) (keeps n ws r x.symbol.0 x.weight p (heavy-at (weight_in ws) rules r e) q)
      raise-ends r e None q = record { left = suc n; kept = p; heavy = e; stuck = λ s x z. absurd (let y : ◌≡◌ {A = ℕ} 0 1 = cc in omega arith) }

      heavy-ends : (o : Option RuleNumber) → first_heavy (weight_in ws) 0 rules ≡ o → Ends (heavy_then rules ws (search_from n rules) o)
      unfolding heavy_then
      heavy-ends None e = record { left = suc n; kept = p; loses = e }
      heavy-ends (Some r) e = raise-ends r.0 e (raise_of ws (get_or rules r.0 no_rule)) refl

    pub ends : (n : ℕ) (ws : List ℕ) → P n ws → Ends (search_from n rules ws)
    unfolding search_from
    ends zero ws p = no-raise-left ws p (first_heavy (weight_in ws) 0 rules) refl
    ends (suc n) ws p = heavy-ends n (ends n) ws p (first_heavy (weight_in ws) 0 rules) refl
