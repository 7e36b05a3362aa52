-- `passing::wrong_from` meets its contract. The invariant: what is left of the tokens gives the whole.
use lib.ListN.{length}
use Rattle.parsing.specs.Parsed.{wrong_from}
use Rattle.text_reader.specs.Lexing.{lexed_in}
use Rattle.text_reader.proofs.Passes.{Left}
use Rattle.text_reader.proofs.passing.wrong_from.Given as goal

abbrev pub invariant-loop-next : goal.invariant-loop-next
invariant-loop-next l = Left l.place (wrong_from l.place (lexed_in l.initial.tokens)) l.tokens

abbrev pub decreases-loop-next : goal.decreases-loop-next
decreases-loop-next l = length l.tokens.rest.now
