-- The tokens of a text (document 02, No. 2): "symbols `s0` to `s31`, variables `V0` to `V15`, signed 32-bit decimal constants, comparators
-- `= \= < =< > >=`, operations `+ - * / %`", "`fail`, and `true` for an empty body", "`\`, `<=>`, `==>` and `|`"; and the marks of lists and ends.
use Rattle.std.specs.Prelude.{ℕ, ◌≤◌, Bool, true, false}
use Rattle.grammar.specs.Tree.{Term, Comparator, Operation}
use Rattle.grammar.specs.WellFormed.{TermGood}

pub data Mark : Type 0 where
  backslash simplifies propagates bar opens closes comma stop : Mark
  true_word fail_word : Mark

-- the marks are numbered in that order
abbrev pub mark_number : Mark → ℕ
mark_number backslash = 0
mark_number simplifies = 1
mark_number propagates = 2
mark_number bar = 3
mark_number opens = 4
mark_number closes = 5
mark_number comma = 6
mark_number stop = 7
mark_number true_word = 8
mark_number fail_word = 9

-- a slot is a constant or a variable
pub data Token : Type 0 where
  symbol : ℕ → Token
  slot : Term → Token
  compares : Comparator → Token
  operates : Operation → Token
  mark : Mark → Token

-- "a constant or variable"
abbrev pub is_slot : Token → Bool
is_slot (symbol k) = false
is_slot (slot a) = true
is_slot (compares c) = false
is_slot (operates o) = false
is_slot (mark m) = false

-- the tokens that have a spelling: `s0` to `s31`, `V0` to `V15`, constants of 32 bits
abbrev pub TokenGood : Token → Type 0
TokenGood (symbol k) = k ≤ 31
TokenGood (slot a) = TermGood a
TokenGood (compares c) = Unit {0}
TokenGood (operates o) = Unit {0}
TokenGood (mark m) = Unit {0}

-- "Text is at most 65,536 bytes."
abbrev pub longest_text : ℕ
longest_text = 65536
