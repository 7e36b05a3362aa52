-- The tests of a record as one list, in the order 16, 17, 18, 21, 19, 20, 22: the first that holds decides. The definition has them in three layers,
-- as the code has, and is the same by computation.
use Prim.Native.Nat.{ℕ, ◌+◌}
use mathlib.Core.Path.{◌≡◌, refl, ap}
use mathlib.Core.List.{List, [], ◌∷◌}
use mathlib.Core.Bool.{Bool, true, false, cond}
use lib.ListN.{length, get_or}
use lib.Dec.{ltb, leb}
use Rattle.std.specs.Prelude.{Option, Some, None, Ok}
use Rattle.model.specs.Records.{kind_of, size_of, out_of_order, headless, too_many}
use Rattle.model.specs.Fields.{bad_field}
use Rattle.model.specs.Variables.{strange}
use Rattle.model.specs.Reading.{RecordStep, behind, fields_of, ordered_of, tested_of, known_of, record_of}
use Rattle.model.specs.declared.Kind.{Kind}
use Rattle.model.specs.declared.Scan.{Scan}
use Rattle.model.specs.declared.Reason.{Reason}
use Rattle.model.specs.declared.Reason.TheVariants.{UnknownKind, CutShort, OutOfOrder, TooMany, BadField, Headless, StrangeVariable}
use Rattle.model.specs.Refusals.{refused}

-- the reason of the first test that holds, at a place; else what follows
pub first_of : ℕ → List (Reason × Bool) → RecordStep → RecordStep
first_of place [] good = good
first_of place (x ∷ rest) good = cond x.1 (refused x.0 place) (first_of place rest good)

-- the tests of a record, where the scan s stands: of one whose byte is no kind's the first holds
pub tests_of : List ℕ → Scan → Option Kind → List (Reason × Bool)
tests_of t s None = (UnknownKind, true) ∷ []
tests_of t s (Some k) =
    (UnknownKind, false) ∷ (CutShort, ltb (length t) (s.at + size_of k)) ∷ (OutOfOrder, out_of_order k s.stage) ∷ (Headless, headless k s.stage)
    ∷ (TooMany, too_many k s) ∷ (BadField, bad_field t s k) ∷ (StrangeVariable, strange t s k) ∷ []

-- what a record that passes them all comes to
pub passed_of : Scan → Option Kind → RecordStep
passed_of s None = refused UnknownKind s.at
passed_of s (Some k) = Ok (behind s k)

pub in-order : (t : List ℕ) (s : Scan) (o : Option Kind) → known_of t s o ≡ first_of s.at (tests_of t s o) (passed_of s o)
unfolding known_of tested_of ordered_of fields_of first_of tests_of passed_of
in-order t s None = refl
in-order t s (Some k) = refl

-- the same of the record at an offset, where there is a byte
pub record-in-order : (t : List ℕ) (s : Scan)
    → record_of t s ≡ cond (leb (length t) s.at) (refused CutShort (length t))
    (first_of s.at (tests_of t s (kind_of (get_or t s.at 0))) (passed_of s (kind_of (get_or t s.at 0))))
unfolding record_of
record-in-order t s = ap (cond (leb (length t) s.at) (refused CutShort (length t))) (in-order t s (kind_of (get_or t s.at 0)))
