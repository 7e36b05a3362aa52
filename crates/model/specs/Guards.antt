-- Expressions and guards under a binding of the variables.
use Rattle.std.specs.Prelude.{ℕ, Bool, true, false, cond, List, [], ◌∷◌, ℤ, pos, ltb, get_or, replicate, Option, Some, None}
use Rattle.numbers.specs.Numbers.{evaluate, compare}
use Rattle.model.specs.declared.Binding.{Binding}
use Rattle.model.specs.declared.Slot.{Slot}
use Rattle.model.specs.declared.Slot.TheVariants.{Unused, Constant, Variable, Bad}
use Rattle.model.specs.declared.Expression.{Expression}
use Rattle.model.specs.Table.{Guard}

-- no variable is bound
abbrev pub unbound : Binding
unbound = record { values = replicate 16 None }

-- a variable of a good table is one of 0..15, stands in a head and is bound; any other has no value
unfoldable pub variable_value : Binding → ℕ → Option ℤ
variable_value b v = cond (ltb v 16) (get_or b.values v None) None

-- a place that is not used is zero
unfoldable pub slot_value : Binding → Slot → Option ℤ
slot_value b Unused = Some (pos 0)
slot_value b (Constant z) = Some z
slot_value b (Variable v) = variable_value b v
slot_value b Bad = None

unfoldable pub expression_value : Binding → Expression → Option ℤ
expression_value b e = evaluate e.operation (slot_value b e.left) (slot_value b e.right)

unfoldable pub comparison_value : Binding → Guard → Option Bool
comparison_value b g = compare g.comparator (expression_value b g.left) (expression_value b g.right)

-- "A guard list is read left to right up to the first comparison that is not true. If that one is false, the guard is false;
-- if it has an undefined side, the guard is undefined. An empty list is true."
unfoldable pub guard_value : Binding → List Guard → Option Bool
guard_value b [] = Some true
guard_value b (g ∷ gs) = elim (comparison_value b g) [ Some true ↦ guard_value b gs | Some false ↦ Some false | None ↦ None ]
