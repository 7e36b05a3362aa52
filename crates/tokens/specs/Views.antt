-- A token of the code as one of the definition, and what the code finds at the front of some bytes.
use Rattle.std.specs.Prelude.{ℕ, ℤ, Option, Some, None}
use Rattle.std.proofs.Math.Option as definition
use Rattle.std.proofs.Math.Option.{some, none}
use Rattle.grammar.specs.Tree.{constant, variable, Comparator, equal, unequal, less, at_most, greater, at_least}
use Rattle.grammar.specs.Tree.{Operation, sum, difference, product, quotient, remainder}
use Rattle.text.specs.Token.{Token, symbol, slot, compares, operates, mark, Mark, backslash, simplifies, propagates, bar, opens, closes, comma, stop}
use Rattle.text.specs.Token.{true_word, fail_word}
use Rattle.text.specs.Spelling.{Found, found, nothing}
use Rattle.tokens.specs.declared.Mark.{Mark as CodeMark}
use Rattle.tokens.specs.declared.Mark.TheVariants.{Backslash, Simplifies, Propagates, Bar, Opens, Closes, Comma, Stop, True, Fail}
use Rattle.tokens.specs.declared.Comparator.{Comparator as CodeComparator}
use Rattle.tokens.specs.declared.Comparator.TheVariants.{Equal, Unequal, Less, AtMost, Greater, AtLeast}
use Rattle.tokens.specs.declared.Operation.{Operation as CodeOperation}
use Rattle.tokens.specs.declared.Operation.TheVariants.{Sum, Difference, Product, Quotient, Remainder}
use Rattle.tokens.specs.declared.Token.{Token as CodeToken}
use Rattle.tokens.specs.declared.Token.TheVariants.{Symbol, Variable, Constant, Compares, Operates, Mark as IsMark}
use Rattle.tokens.specs.declared.Spelled.{Spelled}

abbrev pub mark_of : CodeMark → Mark
mark_of Backslash = backslash
mark_of Simplifies = simplifies
mark_of Propagates = propagates
mark_of Bar = bar
mark_of Opens = opens
mark_of Closes = closes
mark_of Comma = comma
mark_of Stop = stop
mark_of True = true_word
mark_of Fail = fail_word

abbrev pub comparator_of : CodeComparator → Comparator
comparator_of Equal = equal
comparator_of Unequal = unequal
comparator_of Less = less
comparator_of AtMost = at_most
comparator_of Greater = greater
comparator_of AtLeast = at_least

abbrev pub operation_of : CodeOperation → Operation
operation_of Sum = sum
operation_of Difference = difference
operation_of Product = product
operation_of Quotient = quotient
operation_of Remainder = remainder

abbrev pub token_of : CodeToken → Token
token_of (Symbol k) = symbol k
token_of (Variable v) = slot (variable v)
token_of (Constant z) = slot (constant z)
token_of (Compares c) = compares (comparator_of c)
token_of (Operates o) = operates (operation_of o)
token_of (IsMark m) = mark (mark_of m)

abbrev pub found_of : Option Spelled → Found
found_of None = nothing
found_of (Some s) = found (token_of s.token) s.length

-- the parts of words, of n bytes
abbrev pub mark_found : ℕ → Option CodeMark → Found
mark_found n None = nothing
mark_found n (Some m) = found (mark (mark_of m)) n

-- an index, and the length of its word
abbrev pub index_found : ℕ → definition.Option ℕ → Option (ℕ × ℕ)
index_found n none = None
index_found n (some i) = Some (i, n)
