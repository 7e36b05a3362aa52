-- Texts, and what they come to: table A of document 01's worked runs, and a text for each place that a refusal is said to have. By computing.
use Prim.Native.Nat.{ℕ}
use Prim.Native.Char.{code}
use Prim.Native.String.{String, [] as ends, ◌∷◌ as ◌before◌}
use mathlib.Core.Path.{◌≡◌, refl}
use mathlib.Core.List.{List, [], ◌∷◌}
use lib.IntN.{pos}
use Rattle.grammar.specs.Tree.{constant, variable, difference, applied, fact, TableTree}
use Rattle.grammar.proofs.Examples.{tree_a}
use Rattle.text.specs.Spelling.{is_blank, is_digit, is_word_byte, run, digits, value_from, value, negative, index_of, begins, indexed, constant_of}
use Rattle.text.specs.Spelling.{keyword, word}
use Rattle.text.specs.Spelling.{negated, signs, sign_of, token_at}
use Rattle.text.specs.Tokens.{lexed_by, lexed_from, lexed}
use Rattle.parsing.specs.Progress.{table_with}
use Rattle.parsing.specs.Edges.{by, along, edges_of, step}
use Rattle.parsing.specs.Parsed.{forward, whole, Parsed, tree, strange, wrong, unfinished, ended, wrong_from, go_on, parsed_from, parsed}

pub bytes_of : String → List ℕ
bytes_of ends = []
bytes_of (c before s) = code c ∷ bytes_of s

-- what a text comes to
pub read : String → Parsed
read s = parsed (lexed (bytes_of s))

-- `s0(V0 -1)`: behind a variable a minus is the operation
pub less_one : TableTree
less_one = table_with [] (record {
  kept = record { symbol = 0; terms = variable 0 ∷ [] } ∷ [];
  removed = [];
  guards = [];
  items = fact 1 (applied difference (variable 0) (constant (pos 1)) ∷ []) ∷ [];
} ∷ [])

pub texts :
    (read "" ≡ tree (table_with [] []))
    × (read "s0/2. s0(V0, V1) \\ s0(V0, V2) <=> V1 =< V2 | true." ≡ tree tree_a)
    × (read "s0(V0) ==> s1(V0 -1)." ≡ tree less_one)
    -- a symbol that is not in turn, or declared behind a rule: at its "/"
    × (read "s1/2." ≡ wrong 2)
    × (read "s0/2. s0 ==> true. s1/2." ≡ wrong 21)
    -- an arity that is none: at the constant
    × (read "s0/5." ≡ wrong 3)
    -- a fifth argument: at the comma before it
    × (read "s0(1,2,3,4,5) ==> true." ≡ wrong 10)
    × (read "s0 ==> s0(1,2,3,4,5)." ≡ wrong 17)
    × (read "s0 ==> s0, true." ≡ wrong 11)
    × (read "s0 \\ s0 \\ s0 <=> true." ≡ wrong 8)
    × (read "s0 \\ s0 ==> true." ≡ wrong 8)
    × (read "s0 ==> true" ≡ unfinished)
    -- no token: anywhere in the text, also behind the first wrong one
    × (read "s0 ==> ==> #" ≡ strange 11)
    × (read "s32 ==> true." ≡ strange 0)
unfolding read bytes_of less_one is_blank is_digit is_word_byte run digits value_from value negative index_of begins indexed constant_of keyword word negated
    signs sign_of token_at lexed_by lexed_from lexed by along edges_of step forward whole ended wrong_from go_on parsed_from parsed
texts = (refl, refl, refl, refl, refl, refl, refl, refl, refl, refl, refl, refl, refl, refl)
