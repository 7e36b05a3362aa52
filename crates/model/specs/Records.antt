-- The kinds of a table's records: their bytes, lengths, order and limits.
use Rattle.std.specs.Prelude.{ℕ, Option, Some, None, Bool, false, cond, ◌||◌, ltb, leb, eqb}
use Rattle.model.specs.declared.Kind.{Kind}
use Rattle.model.specs.declared.Kind.TheVariants.{NextSymbol, NextRule, KeptHead, RemovedHead, Comparison, BodyFact, BodyFail, EndOfTable}
use Rattle.model.specs.declared.Scan.{Scan}
use Rattle.model.specs.Limits.{most_symbols, most_rules, most_heads, most_guards, most_items}

-- the table of kinds; 16 and 17 are of no table
unfoldable pub kind_of : ℕ → Option Kind
kind_of b =
    cond (eqb b 1) (Some NextSymbol)
    (cond (eqb b 2) (Some NextRule)
    (cond (eqb b 3) (Some KeptHead)
    (cond (eqb b 4) (Some RemovedHead)
    (cond (eqb b 5) (Some Comparison)
    (cond (eqb b 6) (Some BodyFact)
    (cond (eqb b 7) (Some BodyFail)
    (cond (eqb b 8) (Some EndOfTable)
    None)))))))

-- "Each record is one byte of kind, then a body whose length the kind fixes."
abbrev pub size_of : Kind → ℕ
size_of NextSymbol = 2
size_of NextRule = 1
size_of KeptHead = 22
size_of RemovedHead = 22
size_of Comparison = 24
size_of BodyFact = 46
size_of BodyFail = 1
size_of EndOfTable = 1

-- 18: "Symbols stand before all rules. Inside a rule: kept heads, removed heads, guards, body items (kinds 6 and 7 in any order)."
-- The stages are 0 before the first rule and, in a rule, 1 no head yet, 2 kept heads, 3 removed heads, 4 guards, 5 body items
abbrev pub earliest_of : Kind → ℕ
earliest_of NextSymbol = 0
earliest_of NextRule = 0
earliest_of KeptHead = 1
earliest_of RemovedHead = 1
earliest_of Comparison = 1
earliest_of BodyFact = 1
earliest_of BodyFail = 1
earliest_of EndOfTable = 0

abbrev pub latest_of : Kind → ℕ
latest_of NextSymbol = 0
latest_of NextRule = 5
latest_of KeptHead = 2
latest_of RemovedHead = 3
latest_of Comparison = 4
latest_of BodyFact = 5
latest_of BodyFail = 5
latest_of EndOfTable = 5

unfoldable pub out_of_order : Kind → ℕ → Bool
out_of_order k stage = ltb stage (earliest_of k) || ltb (latest_of k) stage

-- 21: "guard, body item, rule or end after a rule with no head"
abbrev pub headless : Kind → ℕ → Bool
headless NextSymbol stage = false
headless NextRule stage = eqb stage 1
headless KeptHead stage = false
headless RemovedHead stage = false
headless Comparison stage = eqb stage 1
headless BodyFact stage = eqb stage 1
headless BodyFail stage = eqb stage 1
headless EndOfTable stage = eqb stage 1

-- 19: "one too many of its sort"
abbrev pub too_many : Kind → Scan → Bool
too_many NextSymbol s = leb most_symbols s.symbols
too_many NextRule s = leb most_rules s.rules
too_many KeptHead s = leb most_heads s.shape.heads
too_many RemovedHead s = leb most_heads s.shape.heads
too_many Comparison s = leb most_guards s.shape.guards
too_many BodyFact s = leb most_items s.shape.items
too_many BodyFail s = leb most_items s.shape.items
too_many EndOfTable s = false
