-- What is asked of the next token, and what a token that is of that class says.
use Rattle.std.specs.Prelude.{ℕ, cond, leb, eqb, pos, negsuc}
use Rattle.std.specs.Prelude.{Option, None, Some}
use Rattle.grammar.specs.Tree.{Term, constant, variable, Operation, quotient, operation_number, Comparator}
use Rattle.text.specs.Token.{Token, symbol, slot, compares, operates, mark, Mark}
use Rattle.text.specs.Token.{mark_number}

pub data Class : Type 0 where
  a_symbol a_slot a_comparator an_operation : Class
  -- the "/" of a declaration, and the arity behind it
  slash an_arity : Class
  the : Mark → Class

abbrev pub Said : Class → Type 0
Said a_symbol = ℕ
Said a_slot = Term
Said a_comparator = Comparator
Said an_operation = Operation
Said slash = Unit {0}
Said an_arity = ℕ
Said (the m) = Unit {0}

-- the token of a class that says x
abbrev pub saying : (c : Class) → Said c → Token
saying a_symbol k = symbol k
saying a_slot a = slot a
saying a_comparator c = compares c
saying an_operation o = operates o
saying slash x = operates quotient
saying an_arity a = slot (constant (pos a))
saying (the m) x = mark m

-- "arity is a constant of value 0..4"
abbrev pub arity_of : Term → Option ℕ
arity_of (constant (pos n)) = cond (leb n 4) (Some n) None
arity_of (constant (negsuc n)) = None
arity_of (variable v) = None

abbrev pub symbol_said : Token → Option ℕ
symbol_said (symbol k) = Some k
symbol_said (slot a) = None
symbol_said (compares c) = None
symbol_said (operates o) = None
symbol_said (mark m) = None

abbrev pub slot_said : Token → Option Term
slot_said (symbol k) = None
slot_said (slot a) = Some a
slot_said (compares c) = None
slot_said (operates o) = None
slot_said (mark m) = None

abbrev pub comparator_said : Token → Option Comparator
comparator_said (symbol k) = None
comparator_said (slot a) = None
comparator_said (compares c) = Some c
comparator_said (operates o) = None
comparator_said (mark m) = None

abbrev pub operation_said : Token → Option Operation
operation_said (symbol k) = None
operation_said (slot a) = None
operation_said (compares c) = None
operation_said (operates o) = Some o
operation_said (mark m) = None

abbrev pub slash_said : Token → Option (Unit {0})
slash_said (symbol k) = None
slash_said (slot a) = None
slash_said (compares c) = None
slash_said (operates o) = cond (eqb (operation_number o) 4) (Some tt) None
slash_said (mark m) = None

abbrev pub arity_said : Token → Option ℕ
arity_said (symbol k) = None
arity_said (slot a) = arity_of a
arity_said (compares c) = None
arity_said (operates o) = None
arity_said (mark m) = None

abbrev pub mark_said : Mark → Token → Option (Unit {0})
mark_said m (symbol k) = None
mark_said m (slot a) = None
mark_said m (compares c) = None
mark_said m (operates o) = None
mark_said m (mark m') = cond (eqb (mark_number m) (mark_number m')) (Some tt) None

-- what a token says as one of a class, where it is one
abbrev pub said : (c : Class) → Token → Option (Said c)
said a_symbol t = symbol_said t
said a_slot t = slot_said t
said a_comparator t = comparator_said t
said an_operation t = operation_said t
said slash t = slash_said t
said an_arity t = arity_said t
said (the m) t = mark_said m t
