-- 20, "bad field: arity, undeclared symbol, tag, operation, comparator, unused or used place, variable".
use Rattle.std.specs.Prelude.{ℕ, ◌+◌, ◌*◌, List, Bool, true, false, not, ◌||◌, get_or, ltb, leb}
use Rattle.model.specs.declared.Kind.{Kind}
use Rattle.model.specs.declared.Kind.TheVariants.{NextSymbol, NextRule, KeptHead, RemovedHead, Comparison, BodyFact, BodyFail, EndOfTable}
use Rattle.model.specs.declared.Scan.{Scan}
use Rattle.model.specs.declared.Slot.{Slot}
use Rattle.model.specs.declared.Slot.TheVariants.{Unused, Constant, Variable, Bad}
use Rattle.model.specs.Slots.{slot_at}

-- a used place holds a constant or a variable; any other is zero in every byte
unfoldable pub place_bad : Bool → Slot → Bool
place_bad used Unused = used
place_bad used (Constant z) = not used
place_bad used (Variable v) = not used
place_bad used Bad = true

-- the arity of a declared symbol: symbols stand first, two bytes each
unfoldable pub arity_at : List ℕ → ℕ → ℕ
arity_at t symbol = get_or t (2 * symbol + 1) 0

-- "A symbol of arity a uses the first a places. Each later place is zero in every byte.": four slots from p
unfoldable pub places_bad : List ℕ → ℕ → ℕ → Bool
places_bad t p arity =
    place_bad (ltb 0 arity) (slot_at t p)
    || (place_bad (ltb 1 arity) (slot_at t (p + 5))
    || (place_bad (ltb 2 arity) (slot_at t (p + 10))
    || place_bad (ltb 3 arity) (slot_at t (p + 15))))

-- the greatest operation of a place: 5 where it is used, 0 where it is zero in every byte
unfoldable pub top_of : Bool → ℕ
top_of true = 5
top_of false = 0

-- "0 the first slot alone (the second unused), 1 sum, 2 difference, 3 product, 4 quotient, 5 remainder"
unfoldable pub expression_bad : List ℕ → ℕ → Bool → Bool
expression_bad t p used =
    ltb (top_of used) (get_or t p 0)
    || (place_bad used (slot_at t (p + 1))
    || place_bad (ltb 0 (get_or t p 0)) (slot_at t (p + 6)))

-- four expressions from p
unfoldable pub arguments_bad : List ℕ → ℕ → ℕ → Bool
arguments_bad t p arity =
    expression_bad t p (ltb 0 arity)
    || (expression_bad t (p + 11) (ltb 1 arity)
    || (expression_bad t (p + 22) (ltb 2 arity)
    || expression_bad t (p + 33) (ltb 3 arity)))

unfoldable pub head_bad : List ℕ → ℕ → ℕ → Bool
head_bad t at symbols =
    leb symbols (get_or t (at + 1) 0)
    || places_bad t (at + 2) (arity_at t (get_or t (at + 1) 0))

unfoldable pub guard_bad : List ℕ → ℕ → Bool
guard_bad t at =
    ltb 5 (get_or t (at + 1) 0)
    || (expression_bad t (at + 2) true
    || expression_bad t (at + 13) true)

unfoldable pub body_fact_bad : List ℕ → ℕ → ℕ → Bool
body_fact_bad t at symbols =
    leb symbols (get_or t (at + 1) 0)
    || arguments_bad t (at + 2) (arity_at t (get_or t (at + 1) 0))

unfoldable pub bad_field : List ℕ → Scan → Kind → Bool
bad_field t s NextSymbol = ltb 4 (get_or t (s.at + 1) 0)
bad_field t s NextRule = false
bad_field t s KeptHead = head_bad t s.at s.symbols
bad_field t s RemovedHead = head_bad t s.at s.symbols
bad_field t s Comparison = guard_bad t s.at
bad_field t s BodyFact = body_fact_bad t s.at s.symbols
bad_field t s BodyFail = false
bad_field t s EndOfTable = false
