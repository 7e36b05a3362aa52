-- `passing::pass` meets its contract. The invariant: what is left of the tokens, read from here, gives what the text is.
use mathlib.Core.Path.{◌≡◌}
use lib.ListN.{length}
use Rattle.text_reader.proofs.Passes.{Reads}
use Rattle.text_reader.proofs.passing.pass.Given as goal

abbrev pub invariant-loop-next : goal.invariant-loop-next
invariant-loop-next l = Reads l.text l.tokens l.a l.table × (length l.table ≡ length l.initial.table)

abbrev pub decreases-loop-next : goal.decreases-loop-next
decreases-loop-next l = length l.tokens.rest.now
