-- What the parts of a weighing ask of a table and its rules, and what they answer.
use Rattle.std.specs.Prelude.{ℕ, zero, suc, ◌+◌, ◌<◌, ◌≤◌, ◌≡◌, Bool, List, ltb, length}
use Rattle.std.specs.Coded.{×_prop, Unit-prop, le_prop}
use Rattle.model.specs.declared.Symbol.{Symbol}
use Rattle.model.specs.declared.RuleShape.{RuleShape}
use Rattle.model.specs.declared.Reading.{Reading}
use Rattle.std.specs.Prelude.{Ok}
use Rattle.model.specs.Limits.{most_heads, most_items}
use Rattle.model.specs.Reading.{read_of}
use Rattle.model.specs.Table.{Rule, symbol_at, items_start, behind_item}
use Rattle.model.specs.Weights.{heads_weight, body_weight}
use Rattle.records.specs.Geometry.{ItemsLie}
use Rattle.rule_weights.specs.declared.rules.RuleWeights.{RuleWeights}

-- the number x, and a bound by which it fits its type
pub record Counted (x most r : ℕ) : Type 0 where
  pub same : r ≡ x
  pub few : r ≤ most

-- w of the symbols of n records from p on, each of so many bytes and with its symbol behind its kind byte
unfoldable pub rows_weight : (Symbol → ℕ) → List ℕ → ℕ → ℕ → ℕ → ℕ
rows_weight w t p size zero = 0
rows_weight w t p size (suc n) = w (symbol_at t (p + 1)) + rows_weight w t (p + size) size n

-- the byte that a closure answers for a symbol is what w says of it, and at most `top`
pub record Gives (post : Symbol → ℕ → Type 0) (w : Symbol → ℕ) (top : ℕ) : Type 0 where
  pub each : (s : Symbol) (r : ℕ) → s.0 < 256 → r < 256 → post s r → Counted (w s) top r

-- the reading of a good table
pub record Known (t : List ℕ) (r : Reading) : Type 0 where
  pub same : r ≡ read_of t
  pub good : r.verdict ≡ Ok tt

-- n body items from p on lie in the table and are few
pub record FewItems (t : List ℕ) (p n : ℕ) : Type 0 where
  pub lie : ItemsLie t p n
  pub few : n ≤ most_items

-- a rule's parts lie in the table, and are few
pub record Lies (t : List ℕ) (r : RuleShape) : Type 0 where
  pub parts_in : items_start r ≤ length t
  pub few_heads : r.heads ≤ most_heads
  pub kept_few : r.kept ≤ r.heads
  pub body : FewItems t (items_start r) r.items

-- a rule's parts lie in one way
items_lie-prop : (t : List ℕ) (p n : ℕ) → IsProp (ItemsLie t p n)
items_lie-prop t p zero = Unit-prop
items_lie-prop t p (suc n) = ×_prop le_prop (×_prop le_prop (items_lie-prop t (behind_item t p) n))

pub Lies-prop : (t : List ℕ) (r : RuleShape) → IsProp (Lies t r)
Lies-prop t r a b i = record {
  parts_in = le_prop a.parts_in b.parts_in i;
  few_heads = le_prop a.few_heads b.few_heads i;
  kept_few = le_prop a.kept_few b.kept_few i;
  body = record { lie = items_lie-prop t (items_start r) r.items a.body.lie b.body.lie i; few = le_prop a.body.few b.body.few i };
}

-- what the two sides of a rule weigh, and bounds by which they fit
pub record Weighs (w : Symbol → ℕ) (r : Rule) (sides : RuleWeights) : Type 0 where
  pub removed : Counted (heads_weight w r.removed) 1020 sides.removed
  pub body : Counted (body_weight w r.body) 1020 sides.body

unfoldable pub loses_weight : (Symbol → ℕ) → Rule → Bool
loses_weight w r = ltb (body_weight w r.body) (heads_weight w r.removed)
