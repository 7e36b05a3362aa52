-- How occurrences are counted through the rule heads, and what a run's mark says.
use Rattle.std.specs.Prelude.{ℕ, suc, ◌-◌, ◌<◌, ◌≤◌, ◌≡◌, List, [], ◌∷◌, ◌++◌, length, get_or, take, drop, Option, Some, None, slice_get}
use Rattle.std.specs.declared.ops.ControlFlow.{ControlFlow}
use Rattle.std.specs.declared.ops.ControlFlow.TheVariants.{Break, Continue}
use Rattle.model.specs.declared.Symbol.{Symbol}
use Rattle.model.specs.declared.Occurrence.{Occurrence}
use Rattle.model.specs.declared.HeadPlace.{HeadPlace}
use Rattle.model.specs.declared.RuleShape.{RuleShape}
use Rattle.std.specs.Prelude.{Ok}
use Rattle.model.specs.Limits.{most_heads}
use Rattle.model.specs.Reading.{read_of, no_shape}
use Rattle.model.specs.Table.{Rule, Table, heads, heads_from, heads_start, guards_start, table_of, places_in, places_from, places}
use Rattle.occurrences.specs.declared.Mark.{Mark}

-- ---- what is left of a symbol's places

-- in the rules from n on
unfoldable pub places_behind : Table → Symbol → ℕ → List HeadPlace
places_behind t s n = places_from s n (drop n t.rules)

-- in the first k heads of the first rule, which has number n, and in the rules behind it
unfoldable pub left_from : Symbol → ℕ → ℕ → List Rule → List HeadPlace
left_from s n k [] = []
left_from s n k (r ∷ rs) = places_in s n 0 (take k (heads r)) ++ places_from s (suc n) rs

-- in the first k heads of rule n, and in the rules behind it
unfoldable pub places_left : Table → Symbol → ℕ → ℕ → List HeadPlace
places_left t s n k = left_from s n k (drop n t.rules)

-- ---- a look through the heads of a rule

-- the first k heads of a rule lie in the table
pub record HeadsLie (t : List ℕ) (r : RuleShape) (k : ℕ) : Type 0 where
  pub few : k ≤ r.heads
  pub few_heads : r.heads ≤ most_heads
  pub within : guards_start r ≤ length t

-- what is found, where the rule has number n and `later` comes behind its heads
unfoldable pub looked_at : ℕ → List HeadPlace → ControlFlow ℕ ℕ → Option HeadPlace
looked_at n later (Break h) = Some (record { rule = record { 0 = n }; head = h })
looked_at n later (Continue m) = slice_get later m

-- a look finds what stands behind `left` places of the first k heads and of what comes behind them, whatever the rule's number and whatever that is
pub record Looked (t : List ℕ) (r : RuleShape) (k : ℕ) (s : Symbol) (left : ℕ) (look : ControlFlow ℕ ℕ) : Type 0 where
  pub same : (n : ℕ) (later : List HeadPlace) → looked_at n later look ≡ slice_get (places_in s n 0 (heads_from t (heads_start r) k) ++ later) left

-- ---- the mark

-- the mark after an answer about occurrence j: it moves to the place, where there is one
abbrev pub mark_after : Option Mark → Symbol → Occurrence → Option HeadPlace → Option Mark
mark_after mark s j (Some p) = Some (record { symbol = s; index = j.0 - 1; place = p })
mark_after mark s j None = mark

-- a mark is on the place that it names
pub record Marked (t : List ℕ) (mark : Option Mark) : Type 0 where
  pub here : (m : Mark) → mark ≡ Some m → slice_get (places (table_of t) m.symbol) m.index ≡ Some m.place

-- ---- what counting asks

-- a good table, and where its rules stand
pub record Countable (t : List ℕ) (shapes : List RuleShape) : Type 0 where
  pub good : (read_of t).verdict ≡ Ok tt
  pub laid : shapes ≡ take (read_of t).rules (read_of t).shapes

-- a place is a head of the table
pub record Standing (t : List ℕ) (p : HeadPlace) : Type 0 where
  pub rule_in : p.rule.0 < (read_of t).rules
  pub head_in : p.head < (get_or (read_of t).shapes p.rule.0 no_shape).heads
