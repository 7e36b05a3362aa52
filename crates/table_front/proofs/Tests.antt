-- The tests of a record look at its own bytes, at those of the symbols and at those of its rule's heads. So over two tables that agree on the first n bytes,
-- where all of these lie, each test comes to the same: one equation for each definition, by the equations of what it is made of.
use Prim.Native.Nat.{ℕ, zero, suc, ◌+◌, ◌*◌, ◌≤◌, ◌<◌}
use mathlib.Core.Path.{◌≡◌, refl, ap}
use mathlib.Core.Bool.{Bool, true, false, not, ◌||◌}
use mathlib.Core.List.{List}
use native.Mathlib.Omega.{arith}
use lib.Dec.{ltb, leb}
use lib.ListN.{length, get_or}
use borrow.Author.Tests.{leb-false}
use Rattle.wire.specs.Wire.{u32_at}
use Rattle.model.specs.declared.Kind.{Kind}
use Rattle.model.specs.declared.Kind.TheVariants.{NextSymbol, NextRule, KeptHead, RemovedHead, Comparison, BodyFact, BodyFail, EndOfTable}
use Rattle.model.specs.declared.Scan.{Scan}
use Rattle.model.specs.declared.Slot.{Slot}
use Rattle.model.specs.declared.Slot.TheVariants.{Unused, Constant, Variable, Bad}
use Rattle.model.specs.Records.{earliest_of}
use Rattle.model.specs.Slots.{slot_at}
use Rattle.model.specs.Fields.{arity_at, places_bad, expression_bad, arguments_bad, head_bad, guard_bad, body_fact_bad, bad_field}
use Rattle.model.specs.Variables.{head_has, in_heads, strange_slot, strange_expression, strange_guard, strange_fact, strange}

-- two tables of at least n bytes, the first n of which are the same
pub record Agree (n : ℕ) (t u : List ℕ) : Type 0 where
  pub bytes : (i : ℕ) → i < n → get_or t i 0 ≡ get_or u i 0
  pub long : n ≤ length t
  pub alike : n ≤ length u

-- a second test that is the same where the first is false
or-same : (b : Bool) (x y : Bool) → (b ≡ false → x ≡ y) → (b || x) ≡ (b || y)
or-same true x y q = refl
or-same false x y q = q refl

module _ {n : ℕ} {t u : List ℕ} (a : Agree n t u) where
  slot-same : (p : ℕ) → p + 5 ≤ n → slot_at t p ≡ slot_at u p
  unfolding slot_at u32_at
  slot-same p l =
      rw (
        a.bytes p (omega arith),
        a.bytes (p + 1) (omega arith),
        a.bytes (p + 1 + 1) (omega arith),
        a.bytes (p + 1 + 2) (omega arith),
        a.bytes (p + 1 + 3) (omega arith),
      )

  -- ---- 20

  places-same : (p arity : ℕ) → p + 20 ≤ n → places_bad t p arity ≡ places_bad u p arity
  unfolding places_bad
  places-same p arity l =
      rw (
        slot-same p (omega arith),
        slot-same (p + 5) (omega arith),
        slot-same (p + 10) (omega arith),
        slot-same (p + 15) (omega arith),
      )

  expression-same : (p : ℕ) (used : Bool) → p + 11 ≤ n → expression_bad t p used ≡ expression_bad u p used
  unfolding expression_bad
  expression-same p used l = rw (a.bytes p (omega arith), slot-same (p + 1) (omega arith), slot-same (p + 6) (omega arith))

  arguments-same : (p arity : ℕ) → p + 44 ≤ n → arguments_bad t p arity ≡ arguments_bad u p arity
  unfolding arguments_bad
  arguments-same p arity l =
      rw (
        expression-same p (ltb 0 arity) (omega arith),
        expression-same (p + 11) (ltb 1 arity) (omega arith),
        expression-same (p + 22) (ltb 2 arity) (omega arith),
        expression-same (p + 33) (ltb 3 arity) (omega arith),
      )

  -- the arity of a declared symbol is among the symbols' bytes
  arity-same : (symbols symbol : ℕ) → 2 * symbols ≤ n → leb symbols symbol ≡ false → arity_at t symbol ≡ arity_at u symbol
  unfolding arity_at
  arity-same symbols symbol few e = a.bytes (2 * symbol + 1) (omega (arith, leb-false symbols symbol e))

  head-same : (at symbols : ℕ) → 2 * symbols ≤ n → at + 22 ≤ n → head_bad t at symbols ≡ head_bad u at symbols
  unfolding head_bad
  head-same at symbols few l =
      rw (a.bytes (at + 1) (omega arith)) (or-same (leb symbols (get_or u (at + 1) 0)) _ _ (λ e.
      rw (arity-same symbols (get_or u (at + 1) 0) few e) (places-same (at + 2) (arity_at u (get_or u (at + 1) 0)) (omega arith))))

  guard-same : (at : ℕ) → at + 24 ≤ n → guard_bad t at ≡ guard_bad u at
  unfolding guard_bad
  guard-same at l = rw (a.bytes (at + 1) (omega arith), expression-same (at + 2) true (omega arith), expression-same (at + 13) true (omega arith))

  fact-same : (at symbols : ℕ) → 2 * symbols ≤ n → at + 46 ≤ n → body_fact_bad t at symbols ≡ body_fact_bad u at symbols
  unfolding body_fact_bad
  fact-same at symbols few l =
      rw (a.bytes (at + 1) (omega arith)) (or-same (leb symbols (get_or u (at + 1) 0)) _ _ (λ e.
      rw (arity-same symbols (get_or u (at + 1) 0) few e) (arguments-same (at + 2) (arity_at u (get_or u (at + 1) 0)) (omega arith))))

  pub field-same : (s : Scan) → 2 * s.symbols ≤ n → s.at + 46 ≤ n → (k : Kind) → bad_field t s k ≡ bad_field u s k
  unfolding bad_field
  field-same s few l NextSymbol = rw (a.bytes (s.at + 1) (omega arith))
  field-same s few l NextRule = refl
  field-same s few l KeptHead = head-same s.at s.symbols few (omega arith)
  field-same s few l RemovedHead = head-same s.at s.symbols few (omega arith)
  field-same s few l Comparison = guard-same s.at (omega arith)
  field-same s few l BodyFact = fact-same s.at s.symbols few l
  field-same s few l BodyFail = refl
  field-same s few l EndOfTable = refl

  -- ---- 22

  has-same : (p v : ℕ) → p + 22 ≤ n → head_has t p v ≡ head_has u p v
  unfolding head_has
  has-same p v l =
      rw (
        slot-same (p + 2) (omega arith),
        slot-same (p + 7) (omega arith),
        slot-same (p + 12) (omega arith),
        slot-same (p + 17) (omega arith),
      )

  heads-same : (p heads v : ℕ) → p + 22 * heads ≤ n → in_heads t p heads v ≡ in_heads u p heads v
  unfolding in_heads
  heads-same p zero v l = refl
  heads-same p (suc m) v l = rw (has-same p v (omega arith), heads-same (p + 22) m v (omega arith))

  module _ (start heads : ℕ) (near : start + 1 + 22 * heads ≤ n) where
    strange-slot-same : (x : Slot) → strange_slot t start heads x ≡ strange_slot u start heads x
    unfolding strange_slot
    strange-slot-same Unused = refl
    strange-slot-same (Constant z) = refl
    strange-slot-same (Variable v) = ap not (heads-same (start + 1) heads v near)
    strange-slot-same Bad = refl

    strange-expression-same : (p : ℕ) → p + 11 ≤ n → strange_expression t start heads p ≡ strange_expression u start heads p
    unfolding strange_expression
    strange-expression-same p l =
        rw (
          slot-same (p + 1) (omega arith),
          slot-same (p + 6) (omega arith),
          strange-slot-same (slot_at u (p + 1)),
          strange-slot-same (slot_at u (p + 6)),
        )

    strange-guard-same : (at : ℕ) → at + 24 ≤ n → strange_guard t start heads at ≡ strange_guard u start heads at
    unfolding strange_guard
    strange-guard-same at l = rw (strange-expression-same (at + 2) (omega arith), strange-expression-same (at + 13) (omega arith))

    strange-fact-same : (at : ℕ) → at + 46 ≤ n → strange_fact t start heads at ≡ strange_fact u start heads at
    unfolding strange_fact
    strange-fact-same at l =
        rw (
          strange-expression-same (at + 2) (omega arith),
          strange-expression-same (at + 13) (omega arith),
          strange-expression-same (at + 24) (omega arith),
          strange-expression-same (at + 35) (omega arith),
        )

  -- guards and body items stand in a rule, whose heads lie in the front too
  pub strange-same : (s : Scan) → s.at + 46 ≤ n → (k : Kind) → (1 ≤ earliest_of k → s.shape.start + 1 + 22 * s.shape.heads ≤ n)
      → strange t s k ≡ strange u s k
  unfolding strange
  strange-same s l NextSymbol near = refl
  strange-same s l NextRule near = refl
  strange-same s l KeptHead near = refl
  strange-same s l RemovedHead near = refl
  strange-same s l Comparison near = strange-guard-same s.shape.start s.shape.heads (near (omega arith)) s.at (omega arith)
  strange-same s l BodyFact near = strange-fact-same s.shape.start s.shape.heads (near (omega arith)) s.at l
  strange-same s l BodyFail near = refl
  strange-same s l EndOfTable near = refl
