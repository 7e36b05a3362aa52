-- The bound on the number of records in `read_of` is no bound: with any more the reading is the same, since each record takes a byte.
use Prim.Native.Nat.{ℕ, zero, suc, ◌+◌, ◌<◌, ◌≤◌}
use mathlib.Core.Path.{◌≡◌, refl, ◌∙◌}
use mathlib.Core.List.{List}
use mathlib.Core.Bool.{Bool, true, false, cond}
use native.Mathlib.Omega.{arith}
use lib.ListN.{length}
use borrow.Author.Tests.{le-leb}
use Rattle.model.specs.Reading.{RecordStep, behind, fields_of, ordered_of, tested_of, known_of}
use Rattle.model.specs.Reading.{record_of, noted, go_on, read_from, first_scan, no_shapes, read_of}
use Rattle.model.specs.declared.Kind.{Kind}
use Rattle.model.specs.declared.Kind.TheVariants.{NextSymbol, NextRule, KeptHead, RemovedHead, Comparison, BodyFact, BodyFail, EndOfTable}
use Rattle.model.specs.declared.RuleShape.{RuleShape}
use Rattle.model.specs.declared.Scan.{Scan}
use Rattle.std.specs.Prelude.{Option, Some, None, Ok, Err}
use Rattle.model.specs.declared.Behind.TheVariants.{Next, Done}
use Rattle.model.specs.declared.Reason.{Reason}
use Rattle.model.specs.Refusals.{refused}

abbrev Grows : ℕ → RecordStep → Type 0
Grows a (Ok (Next s)) = a < s.at
Grows a (Err r) = Unit {0}
Grows a (Ok (Done p)) = Unit {0}

behind-grows : (s : Scan) (k : Kind) → Grows s.at (Ok (behind s k))
unfolding behind
behind-grows s NextSymbol = omega arith
behind-grows s NextRule = omega arith
behind-grows s KeptHead = omega arith
behind-grows s RemovedHead = omega arith
behind-grows s Comparison = omega arith
behind-grows s BodyFact = omega arith
behind-grows s BodyFail = omega arith
behind-grows s EndOfTable = tt

stopped : (a : ℕ) (b : Bool) (n : Reason) (p : ℕ) (y : RecordStep) → Grows a y → Grows a (cond b (refused n p) y)
stopped a true n p y q = tt
stopped a false n p y q = q

tested-grows : (t : List ℕ) (s : Scan) (k : Kind) → Grows s.at (tested_of t s k)
unfolding tested_of ordered_of fields_of
tested-grows t s k = search (stopped, behind-grows) depth 20

known-grows : (t : List ℕ) (s : Scan) (o : Option Kind) → Grows s.at (known_of t s o)
unfolding known_of
known-grows t s None = tt
known-grows t s (Some k) = tested-grows t s k

record-grows : (t : List ℕ) (s : Scan) → Grows s.at (record_of t s)
unfolding record_of
record-grows t s = search (stopped, known-grows)

by-step : (t : List ℕ) (n : ℕ) (s : Scan) (shapes : List RuleShape) (r : RecordStep) → Grows s.at r → length t ≤ suc n + s.at
    → ((s' : Scan) (l : List RuleShape) → length t ≤ n + s'.at → read_from n t s' l ≡ read_from (suc n) t s' l)
    → go_on t s shapes (read_from n t) r ≡ go_on t s shapes (read_from (suc n) t) r
unfolding go_on
by-step t n s shapes (Ok (Next s')) g h more = more s' (noted shapes s') (omega arith)
by-step t n s shapes (Err r) g h more = refl
by-step t n s shapes (Ok (Done p)) g h more = refl

pub enough : (n : ℕ) (t : List ℕ) (s : Scan) (shapes : List RuleShape) → length t ≤ n + s.at → read_from n t s shapes ≡ read_from (suc n) t s shapes
unfolding read_from record_of go_on
enough zero t s shapes h = rw (le-leb (length t) s.at (omega arith))
enough (suc n) t s shapes h = by-step t n s shapes (record_of t s) (record-grows t s) h (enough n t)

pub any-more : (t : List ℕ) (k : ℕ) → read_of t ≡ read_from (k + length t) t first_scan no_shapes
unfolding read_of
any-more t zero = let e : 0 + length t ≡ length t = omega arith in rw e
any-more t (suc k) =
    any-more t k ∙ enough (k + length t) t first_scan no_shapes (omega arith) ∙ (let e : suc (k + length t) ≡ suc k + length t = omega arith in rw e)
