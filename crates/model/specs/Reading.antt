-- Reading a table: "A table is read record by record, each tested in the order 16, 17, 18, 21, 19, 20, 22."
use Rattle.std.specs.Prelude.{ℕ, zero, suc, ◌+◌, ◌-◌, List, Option, Some, None, Result, Ok, Err, cond, length, get_or, set, replicate, ltb, leb, eqb}
use Rattle.model.specs.declared.Kind.{Kind}
use Rattle.model.specs.declared.Kind.TheVariants.{NextSymbol, NextRule, KeptHead, RemovedHead, Comparison, BodyFact, BodyFail, EndOfTable}
use Rattle.model.specs.declared.RuleShape.{RuleShape}
use Rattle.model.specs.declared.Scan.{Scan}
use Rattle.model.specs.declared.Behind.{Behind}
use Rattle.model.specs.declared.Behind.TheVariants.{Next, Done}
use Rattle.model.specs.declared.Reason.TheVariants.{UnknownKind, CutShort, OutOfOrder, TooMany, BadField, Headless, StrangeVariable, BytesBehind}
use Rattle.model.specs.declared.Refusal.{Refusal}
use Rattle.model.specs.declared.Reading.{Reading}
use Rattle.model.specs.Limits.{most_rules}
use Rattle.model.specs.Refusals.{Verdict, refused}
use Rattle.model.specs.Records.{kind_of, size_of, out_of_order, headless, too_many}
use Rattle.model.specs.Fields.{bad_field}
use Rattle.model.specs.Variables.{strange}

-- ---- what is known behind a good record

abbrev pub no_shape : RuleShape
no_shape = record { start = 0; kept = 0; heads = 0; guards = 0; items = 0 }

abbrev pub with_symbol : Scan → Scan
with_symbol s = record { at = s.at + 2; stage = 0; symbols = s.symbols + 1; rules = s.rules; shape = s.shape }

abbrev pub with_rule : Scan → Scan
with_rule s = record {
  at = s.at + 1;
  stage = 1;
  symbols = s.symbols;
  rules = s.rules + 1;
  shape = record { start = s.at; kept = 0; heads = 0; guards = 0; items = 0 };
}

-- the same rule, with one part more
abbrev pub with_part : Scan → ℕ → ℕ → RuleShape → Scan
with_part s size stage shape = record { at = s.at + size; stage = stage; symbols = s.symbols; rules = s.rules; shape = shape }

-- kept heads come first, so that all heads up to a kept one are kept
abbrev pub with_kept : RuleShape → RuleShape
with_kept r = record { start = r.start; kept = r.heads + 1; heads = r.heads + 1; guards = r.guards; items = r.items }

abbrev pub with_removed : RuleShape → RuleShape
with_removed r = record { start = r.start; kept = r.kept; heads = r.heads + 1; guards = r.guards; items = r.items }

abbrev pub with_guard : RuleShape → RuleShape
with_guard r = record { start = r.start; kept = r.kept; heads = r.heads; guards = r.guards + 1; items = r.items }

abbrev pub with_item : RuleShape → RuleShape
with_item r = record { start = r.start; kept = r.kept; heads = r.heads; guards = r.guards; items = r.items + 1 }

unfoldable pub behind : Scan → Kind → Behind
behind s NextSymbol = Next (with_symbol s)
behind s NextRule = Next (with_rule s)
behind s KeptHead = Next (with_part s 22 2 (with_kept s.shape))
behind s RemovedHead = Next (with_part s 22 3 (with_removed s.shape))
behind s Comparison = Next (with_part s 24 4 (with_guard s.shape))
behind s BodyFact = Next (with_part s 46 5 (with_item s.shape))
behind s BodyFail = Next (with_part s 1 5 (with_item s.shape))
behind s EndOfTable = Done (s.at + 1)

-- ---- what a record comes to: of kind k by 17; 18, 21, 19; 20, 22

abbrev pub RecordStep : Type 0
RecordStep = Result Behind Refusal

unfoldable pub fields_of : List ℕ → Scan → Kind → RecordStep
fields_of t s k =
    cond (bad_field t s k) (refused BadField s.at)
    (cond (strange t s k) (refused StrangeVariable s.at)
    (Ok (behind s k)))

unfoldable pub ordered_of : List ℕ → Scan → Kind → RecordStep
ordered_of t s k =
    cond (out_of_order k s.stage) (refused OutOfOrder s.at)
    (cond (headless k s.stage) (refused Headless s.at)
    (cond (too_many k s) (refused TooMany s.at)
    (fields_of t s k)))

unfoldable pub tested_of : List ℕ → Scan → Kind → RecordStep
tested_of t s k =
    cond (ltb (length t) (s.at + size_of k)) (refused CutShort s.at)
    (ordered_of t s k)

-- 16: "unknown kind in a table"
unfoldable pub known_of : List ℕ → Scan → Option Kind → RecordStep
known_of t s None = refused UnknownKind s.at
known_of t s (Some k) = tested_of t s k

-- 17: "record cut short, or no end record", at "its offset, or table length"
unfoldable pub record_of : List ℕ → Scan → RecordStep
record_of t s =
    cond (leb (length t) s.at) (refused CutShort (length t))
    (known_of t s (kind_of (get_or t s.at 0)))

-- ---- the whole table

abbrev pub reading : Verdict → ℕ → ℕ → List RuleShape → Reading
reading v symbols rules shapes = record { verdict = v; symbols = symbols; rules = rules; shapes = shapes }

-- the rule that is being read, at its place among the rules
unfoldable pub noted : List RuleShape → Scan → List RuleShape
noted shapes s = cond (eqb s.rules 0) shapes (set shapes (s.rules - 1) s.shape)

-- 23: "bytes after the end record", at the "first such byte"
unfoldable pub ended : List ℕ → ℕ → Verdict
ended t p = cond (ltb p (length t)) (refused BytesBehind p) (Ok tt)

unfoldable pub go_on : List ℕ → Scan → List RuleShape → (Scan → List RuleShape → Reading) → RecordStep → Reading
go_on t s shapes more (Ok (Next s')) = more s' (noted shapes s')
go_on t s shapes more (Err r) = reading (Err r) s.symbols s.rules shapes
go_on t s shapes more (Ok (Done p)) = reading (ended t p) s.symbols s.rules shapes

-- at most n records from s on. Each takes a byte at least, so that behind as many records as the table has bytes there is none left
unfoldable pub read_from : ℕ → List ℕ → Scan → List RuleShape → Reading
read_from zero t s shapes = reading (refused CutShort (length t)) s.symbols s.rules shapes
read_from (suc n) t s shapes = go_on t s shapes (read_from n t) (record_of t s)

abbrev pub first_scan : Scan
first_scan = record { at = 0; stage = 0; symbols = 0; rules = 0; shape = no_shape }

abbrev pub no_shapes : List RuleShape
no_shapes = replicate most_rules no_shape

-- "Symbols and rules are numbered from 0."
unfoldable pub read_of : List ℕ → Reading
read_of t = read_from (length t) t first_scan no_shapes
