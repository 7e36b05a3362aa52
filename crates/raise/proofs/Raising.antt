-- Raising: what a raise does, and that the raise of a rule that lies in a table's bytes is the definition's.
use Prim.Native.Nat.{ℕ, zero, suc, ◌+◌, ◌-◌, ◌*◌, ◌<◌, ◌≤◌}
use mathlib.Core.Path.{◌≡◌, refl, sym, ap, ◌∙◌}
use mathlib.Core.Logic.{◌⊎◌, inl, inr}
use mathlib.Core.Bool.{Bool, true, false, cond}
use mathlib.Core.List.{List, [], ◌∷◌}
use native.Mathlib.Omega.{arith}
use native.Mathlib.Nat.{eq-or-lt_of_le}
use native.Mathlib.Numerals.{add-one}
use lib.Dec.{leb}
use lib.ListN.{get_or}
use borrow.Author.Tests.{le-leb, leb-true, lt-leb}
use Rattle.std.specs.Prelude.{Some, None, Result, Ok, Err, OkIff}
use Rattle.std.specs.Result.{result_ok}
use Rattle.model.specs.declared.Symbol.{Symbol}
use Rattle.model.specs.declared.RuleShape.{RuleShape}
use Rattle.model.specs.Table.{Head, Rule, head_at, heads_from, heads_start, rule_of}
use Rattle.model.specs.Weights.{weight_in, heads_weight, body_weight}
use Rattle.model.proofs.Decoded.{heads-none, heads-first, rule-removed}
use Rattle.rule_weights.specs.declared.rules.RuleWeights.{RuleWeights}
use Rattle.rule_weights.specs.Views.{Lies, Weighs}
use Rattle.raise.specs.declared.NewWeight.{NewWeight}
use Rattle.raise.specs.Raise.{to, raise_by, raise_of}

-- ---- a number that is to be a byte

pub fits : {E : Type 0} (r : Result ℕ E) (n x : ℕ) → OkIff r (n < 256) n → Some x ≡ result_ok r → (x ≡ n) × (n < 256)
fits (Ok y) n x o e = let z : x ≡ y = cc in (z ∙ o.1, o.0)
fits (Err d) n x o e = cc

pub above : {E : Type 0} (r : Result ℕ E) (n : ℕ) → OkIff r (n < 256) n → None ≡ result_ok r → 255 < n
above (Ok y) n o e = cc
above (Err d) n o e = omega (arith, o)

-- ---- what a raise does

-- the first of these heads has its symbol s raised by d to x
pub record RaisedBy (ws : List ℕ) (d : ℕ) (hs : List Head) (s x : ℕ) : Type 0 where
  pub head : Head
  pub rest : List Head
  pub first : hs ≡ head ∷ rest
  pub symbol : s ≡ head.symbol.0
  pub weight : x ≡ get_or ws s 1 + d
  pub small : x ≤ 255

-- a raise says its symbol and its weight
pub to-same : {a b s x : ℕ} → to a b ≡ to s x → (a ≡ s) × (b ≡ x)
to-same {a} {b} {s} {x} e =
    let raises : ◌≡◌ {A = NewWeight} (record { symbol = record { 0 = a }; weight = b }) (record { symbol = record { 0 = s }; weight = x }) = cc in
    (ap (λ (z : NewWeight). z.symbol.0) raises, ap (λ (z : NewWeight). z.weight) raises)

pub raised-by : (ws : List ℕ) (d : ℕ) (hs : List Head) (s x : ℕ) → raise_by ws d hs ≡ to s x → RaisedBy ws d hs s x
unfolding raise_by
raised-by ws d [] s x e = absurd (let z : ◌≡◌ {A = ℕ} 0 1 = cc in omega arith)
raised-by ws d (h ∷ hs) s x e = go (leb (weight_in ws h.symbol + d) 255) refl e
  where
    go : (b : Bool) → leb (weight_in ws h.symbol + d) 255 ≡ b → cond b (to h.symbol.0 (weight_in ws h.symbol + d)) None ≡ to s x
        → RaisedBy ws d (h ∷ hs) s x
    go true t q =
        let y : s ≡ h.symbol.0 = sym (to-same q).0 in
        let z : x ≡ weight_in ws h.symbol + d = sym (to-same q).1 in
        record { head = h; rest = hs; first = refl; symbol = y; weight = rw y z; small = omega (arith, leb-true (weight_in ws h.symbol + d) 255 t) }
    go false t q = absurd (let z : ◌≡◌ {A = ℕ} 0 1 = cc in omega arith)

-- by how much a rule is raised
abbrev pub lack : List ℕ → Rule → ℕ
lack ws r = suc (body_weight (weight_in ws) r.body) - heads_weight (weight_in ws) r.removed

pub raised : (ws : List ℕ) (r : Rule) (s x : ℕ) → raise_of ws r ≡ to s x → RaisedBy ws (lack ws r) r.removed s x
unfolding raise_of
raised ws r = raised-by ws (lack ws r) r.removed

-- ---- a rule by where it stands

module _ (ws t : List ℕ) where
  raise-head : (d p n : ℕ) → 0 < n
      → raise_by ws d (heads_from t p n)
      ≡ cond (leb (get_or ws (get_or t (p + 1) 0) 1 + d) 255) (to (get_or t (p + 1) 0) (get_or ws (get_or t (p + 1) 0) 1 + d)) None
  unfolding raise_by head_at
  raise-head d p n h = rw (heads-first t p n h)

  -- what is raised is the first head's symbol
  pub to-head : (d p n s x : ℕ) → raise_by ws d (heads_from t p n) ≡ to s x → (0 < n) × (s ≡ get_or t (p + 1) 0)
  unfolding heads_from head_at
  to-head d p zero s x e = let r = raised-by ws d [] s x e in absurd (let z : ◌≡◌ {A = ℕ} 0 1 = cc r.first in omega arith)
  to-head d p (suc n) s x e =
      let r = raised-by ws d (heads_from t p (suc n)) s x e in
      let h : r.head ≡ head_at t p = cc r.first in
      (omega arith, r.symbol ∙ ap (λ (h : Head). h.symbol.0) h)

  module _ (r : RuleShape) where
    abbrev removed : List Head
    removed = (rule_of t r).removed

    pub first-removed : (d : ℕ) → raise_by ws d removed ≡ raise_by ws d (heads_from t (heads_start r + 22 * r.kept) (r.heads - r.kept))
    first-removed d = ap (raise_by ws d) (rule-removed t r)

    pub raise-none : r.heads ≡ r.kept → None ≡ raise_of ws (rule_of t r)
    unfolding raise_of raise_by
    raise-none e =
        let z : r.heads - r.kept ≡ 0 = omega arith in
        let none-left : removed ≡ [] = rule-removed t r ∙ rw z (heads-none t (heads_start r + 22 * r.kept)) in
        rw none-left

    module _ {p d x : ℕ} {b : Symbol} {sides : RuleWeights} (lie : Lies t r) (more : r.heads ≡ r.kept → ⊥) (both : Weighs (weight_in ws) (rule_of t r) sides)
        (by : d ≡ sides.body + 1 - sides.removed) {q : ℕ} (kept : q ≡ r.kept) (at : p ≡ heads_start r + 22 * q) (symbol : b.0 ≡ get_or t (p + 1) 0)
        (weight : x ≡ weight_in ws b) where
      some-removed : 0 < r.heads - r.kept
      some-removed = go (eq-or-lt_of_le lie.kept_few)
        where
          go : (r.kept ≡ r.heads) ⊎ (r.kept < r.heads) → 0 < r.heads - r.kept
          go (inl e) = absurd (more (sym e))
          go (inr l) = omega arith

      raise-is : raise_of ws (rule_of t r) ≡ cond (leb (x + d) 255) (to b.0 (x + d)) None
      unfolding raise_of
      raise-is =
          ap (λ (n : ℕ). raise_by ws n removed) (sym (rw (← both.removed.same, ← both.body.same) (by ∙ ap (λ (n : ℕ). n - sides.removed) (add-one sides.body))))
          ∙ first-removed d
          ∙ raise-head d (heads_start r + 22 * r.kept) (r.heads - r.kept) some-removed
          ∙ rw (← kept, ← at, ← symbol, ← weight)

      pub raise-above : 255 < x + d → None ≡ raise_of ws (rule_of t r)
      raise-above h = sym (raise-is ∙ rw (lt-leb (x + d) 255 h))

      pub raise-to : x + d ≤ 255 → to b.0 (x + d) ≡ raise_of ws (rule_of t r)
      raise-to h = sym (raise-is ∙ rw (le-leb (x + d) 255 h))
