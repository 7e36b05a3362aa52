-- `Tokens::next` meets its contract.
use mathlib.Core.Path.{refl}
use Rattle.text_reader.proofs.Nexts.{next_end, next_strange, next_token}
use Rattle.text_reader.proofs.lexing.Tokens.next.Goals as goal

pub returns-in_err-blanks : goal.returns-in_err-blanks
returns-in_err-blanks c = next_end c.args.self.now c.from_residual.ensures c.in_err-blanks.ensures

pub returns-in_default : goal.returns-in_default
returns-in_default c = next_strange c.args.self.now c.in_ok-blanks.ensures c.in_default.ensures.same c.at.ensures

pub returns : goal.returns
returns c = next_token c.args.self.now c.in_ok-blanks.ensures c.in-Some.ensures.same refl refl c.is_slot-self.ensures
