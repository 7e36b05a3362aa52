-- 22, "guard or body variable in no head".
use Rattle.std.specs.Prelude.{ℕ, zero, suc, ◌+◌, List, Bool, false, not, ◌||◌, eqb}
use Rattle.model.specs.declared.Kind.{Kind}
use Rattle.model.specs.declared.Kind.TheVariants.{NextSymbol, NextRule, KeptHead, RemovedHead, Comparison, BodyFact, BodyFail, EndOfTable}
use Rattle.model.specs.declared.Scan.{Scan}
use Rattle.model.specs.declared.Slot.{Slot}
use Rattle.model.specs.declared.Slot.TheVariants.{Unused, Constant, Variable, Bad}
use Rattle.model.specs.Slots.{slot_at}

unfoldable pub is_variable : Slot → ℕ → Bool
is_variable Unused v = false
is_variable (Constant z) v = false
is_variable (Variable w) v = eqb w v
is_variable Bad v = false

-- whether v stands in one of the four slots of the head at p
unfoldable pub head_has : List ℕ → ℕ → ℕ → Bool
head_has t p v =
    is_variable (slot_at t (p + 2)) v
    || (is_variable (slot_at t (p + 7)) v
    || (is_variable (slot_at t (p + 12)) v
    || is_variable (slot_at t (p + 17)) v))

-- whether v stands in one of the n heads from p
unfoldable pub in_heads : List ℕ → ℕ → ℕ → ℕ → Bool
in_heads t p zero v = false
in_heads t p (suc n) v = head_has t p v || in_heads t (p + 22) n v

-- whether a slot is a variable that none of the heads of the rule at `start` has
unfoldable pub strange_slot : List ℕ → ℕ → ℕ → Slot → Bool
strange_slot t start heads Unused = false
strange_slot t start heads (Constant z) = false
strange_slot t start heads (Variable v) = not (in_heads t (start + 1) heads v)
strange_slot t start heads Bad = false

unfoldable pub strange_expression : List ℕ → ℕ → ℕ → ℕ → Bool
strange_expression t start heads p =
    strange_slot t start heads (slot_at t (p + 1))
    || strange_slot t start heads (slot_at t (p + 6))

unfoldable pub strange_guard : List ℕ → ℕ → ℕ → ℕ → Bool
strange_guard t start heads at =
    strange_expression t start heads (at + 2)
    || strange_expression t start heads (at + 13)

unfoldable pub strange_fact : List ℕ → ℕ → ℕ → ℕ → Bool
strange_fact t start heads at =
    strange_expression t start heads (at + 2)
    || (strange_expression t start heads (at + 13)
    || (strange_expression t start heads (at + 24)
    || strange_expression t start heads (at + 35)))

unfoldable pub strange : List ℕ → Scan → Kind → Bool
strange t s NextSymbol = false
strange t s NextRule = false
strange t s KeptHead = false
strange t s RemovedHead = false
strange t s Comparison = strange_guard t s.shape.start s.shape.heads s.at
strange t s BodyFact = strange_fact t s.shape.start s.shape.heads s.at
strange t s BodyFail = false
strange t s EndOfTable = false
