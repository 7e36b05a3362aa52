-- `expressions::term` meets its contract: what is no operation passes the first move over.
use mathlib.Core.Path.{◌≡◌, refl}
use Rattle.std.specs.Prelude.{None}
use Rattle.parsing.specs.Classes.{operation_said}
use Rattle.tokens.specs.Views.{token_of}
use Rattle.tokens.specs.declared.Token.{Token}
use Rattle.tokens.specs.declared.Token.TheVariants.{Symbol, Variable, Constant, Compares, Operates, Mark}
use Rattle.tokens.specs.declared.Operation.{Operation}
use Rattle.assembly.specs.Moves.{moves_of, along}
use Rattle.assembly.proofs.expressions.term.Goals as goal

no-operation : (t : Token) → ((o : Operation) → t ≡ Operates o → ⊥) → operation_said (token_of t) ≡ None
no-operation (Symbol k) n = refl
no-operation (Variable v) n = refl
no-operation (Constant z) n = refl
no-operation (Compares c) n = refl
no-operation (Operates o) n = absurd (n o refl)
no-operation (Mark m) n = refl

pub returns : goal.returns
unfolding moves_of along
returns c = rw (no-operation c.args.t c.in_default.not-Operates) c.behind_formula.ensures
