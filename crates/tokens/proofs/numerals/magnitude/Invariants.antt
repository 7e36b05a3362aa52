-- `numerals::magnitude` meets its contract: what the digits so far say, and the bytes left, say the whole.
use Rattle.std.proofs.Common.{◌≡◌}
use lib.ListN.{drop}
use Rattle.text.specs.Spelling.{run}
use Rattle.tokens.specs.Numerals.{magnitude_of}
use Rattle.tokens.proofs.DigitReads.{magnitude_from}
use Rattle.tokens.proofs.numerals.magnitude.Given as goal

abbrev pub invariant-loop-count : goal.invariant-loop-count
invariant-loop-count l = magnitude_from l.value l.count (drop l.count l.rest) ≡ magnitude_of (run l.rest) l.rest
