-- A tree as text, laid out for people: a declaration a line, a rule a line, a space behind each comma and on both sides of arrows, bars, comparators
-- and operations.
use Rattle.std.specs.Prelude.{ℕ, zero, suc, ◌+◌, ◌/◌, ◌%◌, cond, List, [], ◌∷◌, ◌++◌, ltb, pos, negsuc}
use Rattle.grammar.specs.Tree.{Term, constant, variable, Operation, sum, difference, product, quotient, remainder, Comparator, equal, unequal, less, at_most}
use Rattle.grammar.specs.Tree.{greater, at_least, TableTree}
use Rattle.text.specs.Token.{Token, symbol, slot, compares, operates, mark, Mark, backslash, simplifies, propagates, bar, opens, closes, comma, stop}
use Rattle.text.specs.Token.{true_word, fail_word}
use Rattle.text.specs.Text.{each_tokens, rule_tokens}

-- ---- numbers

-- the digits of n, before those of `later`; n has at most as many as the first argument
unfoldable pub decimal_before : ℕ → ℕ → List ℕ → List ℕ
decimal_before zero n later = later
decimal_before (suc d) n later = cond (ltb n 10) ((48 + n) ∷ later) (decimal_before d (n / 10) ((48 + n % 10) ∷ later))

-- numbers of 32 bits have at most ten digits
unfoldable pub decimal : ℕ → List ℕ
decimal n = decimal_before 10 n []

unfoldable pub term_text : Term → List ℕ
term_text (constant (pos n)) = decimal n
term_text (constant (negsuc n)) = 45 ∷ decimal (suc n)
term_text (variable v) = 86 ∷ decimal v

unfoldable pub symbol_text : ℕ → List ℕ
symbol_text k = 115 ∷ decimal k

-- ---- marks, with the spaces around them

unfoldable pub comparator_text : Comparator → List ℕ
comparator_text equal = 32 ∷ 61 ∷ 32 ∷ []
comparator_text unequal = 32 ∷ 92 ∷ 61 ∷ 32 ∷ []
comparator_text less = 32 ∷ 60 ∷ 32 ∷ []
comparator_text at_most = 32 ∷ 61 ∷ 60 ∷ 32 ∷ []
comparator_text greater = 32 ∷ 62 ∷ 32 ∷ []
comparator_text at_least = 32 ∷ 62 ∷ 61 ∷ 32 ∷ []

unfoldable pub operation_text : Operation → List ℕ
operation_text sum = 32 ∷ 43 ∷ 32 ∷ []
operation_text difference = 32 ∷ 45 ∷ 32 ∷ []
operation_text product = 32 ∷ 42 ∷ 32 ∷ []
operation_text quotient = 32 ∷ 47 ∷ 32 ∷ []
operation_text remainder = 32 ∷ 37 ∷ 32 ∷ []

unfoldable pub mark_text : Mark → List ℕ
mark_text backslash = 32 ∷ 92 ∷ 32 ∷ []
mark_text simplifies = 32 ∷ 60 ∷ 61 ∷ 62 ∷ 32 ∷ []
mark_text propagates = 32 ∷ 61 ∷ 61 ∷ 62 ∷ 32 ∷ []
mark_text bar = 32 ∷ 124 ∷ 32 ∷ []
mark_text opens = 40 ∷ []
mark_text closes = 41 ∷ []
mark_text comma = 44 ∷ 32 ∷ []
mark_text stop = 46 ∷ 10 ∷ []
mark_text true_word = 116 ∷ 114 ∷ 117 ∷ 101 ∷ []
mark_text fail_word = 102 ∷ 97 ∷ 105 ∷ 108 ∷ []

-- ---- tokens, and trees

unfoldable pub token_text : Token → List ℕ
token_text (symbol k) = symbol_text k
token_text (slot a) = term_text a
token_text (compares c) = comparator_text c
token_text (operates o) = operation_text o
token_text (mark m) = mark_text m

unfoldable pub tokens_text : List Token → List ℕ
tokens_text [] = []
tokens_text (t ∷ ts) = token_text t ++ tokens_text ts

-- `s0/2.`: here the slash has no spaces
unfoldable pub declarations_text : ℕ → List ℕ → List ℕ
declarations_text k [] = []
declarations_text k (a ∷ arities) = symbol_text k ++ (47 ∷ (decimal a ++ (46 ∷ 10 ∷ declarations_text (suc k) arities)))

unfoldable pub printed : TableTree → List ℕ
printed w = declarations_text 0 w.arities ++ tokens_text (each_tokens rule_tokens w.rules)
