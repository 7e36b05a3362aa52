-- What a token is, by its spelling and what stands before it. "The longest token is taken; a run of letters and digits is never split. A minus
-- belongs to a constant unless a constant or variable stands before it; a constant out of range is no token."
use Rattle.std.specs.Prelude.{ℕ, zero, suc, ◌+◌, ◌-◌, ◌*◌, Bool, true, false, cond, not, ◌&&◌, ◌||◌, List, [], ◌∷◌, ltb, leb, eqb, ℤ, pos, negsuc, length}
use Rattle.std.proofs.Math.Option.{Option, none, some}
use Rattle.grammar.specs.Tree.{constant, variable, sum, difference, product, quotient, remainder, equal, unequal, less, at_most, greater, at_least}
use Rattle.text.specs.Token.{Token, symbol, slot, compares, operates, mark, backslash, simplifies, propagates, bar, opens, closes, comma, stop}
use Rattle.text.specs.Token.{true_word, fail_word}

-- ---- bytes

-- "spaces and line ends anywhere between tokens": a space, a line feed, a carriage return
unfoldable pub is_blank : ℕ → Bool
is_blank b = eqb b 32 || (eqb b 10 || eqb b 13)

-- `0` to `9`
unfoldable pub is_digit : ℕ → Bool
is_digit b = leb 48 b && leb b 57

-- `0` to `9`, `A` to `Z`, `a` to `z`
unfoldable pub is_word_byte : ℕ → Bool
is_word_byte b = (leb 48 b && leb b 57) || ((leb 65 b && leb b 90) || (leb 97 b && leb b 122))

-- how many letters and digits stand at the front
unfoldable pub run : List ℕ → ℕ
run [] = 0
run (b ∷ bs) = cond (is_word_byte b) (suc (run bs)) 0

-- ---- numerals

-- whether the first n bytes are digits
unfoldable pub digits : ℕ → List ℕ → Bool
digits zero bs = true
digits (suc n) [] = false
digits (suc n) (b ∷ bs) = is_digit b && digits n bs

-- the number that the first n digits say, behind v
unfoldable pub value_from : ℕ → ℕ → List ℕ → ℕ
value_from v zero bs = v
value_from v (suc n) [] = v
value_from v (suc n) (b ∷ bs) = value_from (10 * v + (b - 48)) n bs

-- "leading zeros and `-0` included"
unfoldable pub value : ℕ → List ℕ → ℕ
value n bs = value_from 0 n bs

unfoldable pub negative : ℕ → ℤ
negative zero = pos 0
negative (suc n) = negsuc n

-- `0` to most "in exactly this spelling": one digit, or two of which the first is not 0
unfoldable pub index_of : ℕ → ℕ → List ℕ → Option ℕ
index_of most n bs =
    cond (leb 1 n && (leb n 2 && digits n bs))
    (cond (eqb n 2 && ltb (value n bs) 10) none (cond (leb (value n bs) most) (some (value n bs)) none))
    none

-- ---- what stands at the front of some bytes: a token and its length, or none

pub data Found : Type 0 where
  found : Token → ℕ → Found
  nothing : Found

-- whether the bytes begin so
unfoldable pub begins : List ℕ → List ℕ → Bool
begins [] bs = true
begins (s ∷ ss) [] = false
begins (s ∷ ss) (b ∷ bs) = eqb b s && begins ss bs

-- a word of n bytes: the index of a symbol or of a variable behind its letter, a constant, `true` or `fail`
unfoldable pub indexed : (ℕ → Token) → ℕ → Option ℕ → Found
indexed token n none = nothing
indexed token n (some i) = found (token i) n

unfoldable pub constant_of : ℕ → List ℕ → Found
constant_of n bs = cond (digits n bs && leb (value n bs) 2147483647) (found (slot (constant (pos (value n bs)))) n) nothing

-- `true` and `fail`
unfoldable pub keyword : ℕ → List ℕ → Found
keyword n bs =
    cond (eqb n 4 && begins (116 ∷ 114 ∷ 117 ∷ 101 ∷ []) bs) (found (mark true_word) 4)
    (cond (eqb n 4 && begins (102 ∷ 97 ∷ 105 ∷ 108 ∷ []) bs) (found (mark fail_word) 4)
    nothing)

-- `s`, `V`, a digit, or another letter
unfoldable pub word : ℕ → List ℕ → Found
word n [] = nothing
word n (b ∷ bs) =
    cond (eqb b 115) (indexed symbol n (index_of 31 (n - 1) bs))
    (cond (eqb b 86) (indexed (λ (v : ℕ). slot (variable v)) n (index_of 15 (n - 1) bs))
    (cond (is_digit b) (constant_of n (b ∷ bs))
    (keyword n (b ∷ bs))))

-- a minus, and the n letters and digits behind it
unfoldable pub negated : ℕ → List ℕ → Found
negated n bs =
    cond (leb 1 n && (digits n bs && leb (value n bs) 2147483648)) (found (slot (constant (negative (value n bs)))) (suc n)) nothing

-- ---- marks

pub record Sign : Type 0 where
  pub spelling : List ℕ
  pub token : Token

abbrev pub sign : List ℕ → Token → Sign
sign s t = record { spelling = s; token = t }

-- the longest first: `<=> ==> \= =< >= \ | = < > + - * / % ( ) , .`
unfoldable pub signs : List Sign
signs =
    sign (60 ∷ 61 ∷ 62 ∷ []) (mark simplifies)
    ∷ sign (61 ∷ 61 ∷ 62 ∷ []) (mark propagates)
    ∷ sign (92 ∷ 61 ∷ []) (compares unequal)
    ∷ sign (61 ∷ 60 ∷ []) (compares at_most)
    ∷ sign (62 ∷ 61 ∷ []) (compares at_least)
    ∷ sign (92 ∷ []) (mark backslash)
    ∷ sign (124 ∷ []) (mark bar)
    ∷ sign (61 ∷ []) (compares equal)
    ∷ sign (60 ∷ []) (compares less)
    ∷ sign (62 ∷ []) (compares greater)
    ∷ sign (43 ∷ []) (operates sum)
    ∷ sign (45 ∷ []) (operates difference)
    ∷ sign (42 ∷ []) (operates product)
    ∷ sign (47 ∷ []) (operates quotient)
    ∷ sign (37 ∷ []) (operates remainder)
    ∷ sign (40 ∷ []) (mark opens)
    ∷ sign (41 ∷ []) (mark closes)
    ∷ sign (44 ∷ []) (mark comma)
    ∷ sign (46 ∷ []) (mark stop)
    ∷ []

-- the first sign of a list that the bytes begin with
unfoldable pub sign_of : List Sign → List ℕ → Found
sign_of [] bs = nothing
sign_of (s ∷ ss) bs = cond (begins s.spelling bs) (found s.token (length s.spelling)) (sign_of ss bs)

-- ---- a token

-- the token at the front, where `after` says whether the token before it is a constant or a variable
unfoldable pub token_at : Bool → List ℕ → Found
token_at after [] = nothing
token_at after (b ∷ bs) =
    cond (is_word_byte b) (word (run (b ∷ bs)) (b ∷ bs))
    (cond (eqb b 45 && not after) (negated (run bs) bs)
    (sign_of signs (b ∷ bs)))
