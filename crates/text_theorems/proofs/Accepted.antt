-- Which texts are read, and to what: exactly those that the grammar and document 01's table rules allow, to the bytes of the table that they stand for.
use Prim.Native.Nat.{ℕ, ◌≤◌}
use native.Mathlib.Omega.{arith}
use mathlib.Core.Path.{◌≡◌, ap}
use mathlib.Core.Logic.{◌↔◌}
use mathlib.Core.List.{List, ◌++◌}
use lib.ListN.{length, drop}
use Rattle.std.specs.Prelude.{Ok}
use Rattle.model.specs.Results.{refusal}
use Rattle.model.specs.Reading.{read_of}
use Rattle.model.specs.Calls.{verdict_result, check_of}
use Rattle.grammar.specs.Tree.{TableTree}
use Rattle.grammar.specs.Encode.{encode}
use Rattle.grammar.specs.WellFormed.{WellFormed}
use Rattle.grammar.proofs.Encoded.{encoding-good}
use Rattle.text.specs.Tokens.{lexed, tokens_in, AllTokens}
use Rattle.text.specs.Text.{Text}
use Rattle.parsing.specs.Parsed.{tree, parsed}
use Rattle.parsing.proofs.Exactly.{one-tree, text-exactly}
use Rattle.text_reader.specs.ReadText.{ReadCall, read_text_of}
use Rattle.text_theorems.proofs.Cases.{read-good, Way, long, strange_byte, wrong_token, at_end, no_room, bad_table, good_table, way}

-- these bytes are a text of the tree w: not too long, all tokens, and these as the grammar has them
pub record TextOf (text : List ℕ) (w : TableTree) : Type 0 where
  pub short : length text ≤ 65536
  pub tokens : AllTokens (lexed text)
  pub spells : Text (tokens_in (lexed text)) w

-- the table of the tree w has room, and document 01's check gives it 0
pub record Fits (table : List ℕ) (w : TableTree) : Type 0 where
  pub room : length (encode w) ≤ length table
  pub checked : (check_of (encode w)).number ≡ 0

abbrev pub Accepted : List ℕ → List ℕ → TableTree → Type 0
Accepted text table w = TextOf text w × Fits table w

pub number-of : (r s : ReadCall) → r ≡ s → r.result.number ≡ s.result.number
number-of r s e = ap (λ (x : ReadCall). x.result.number) e

pub parsed-text : (text : List ℕ) (w : TableTree) → length text ≤ 65536 → parsed (lexed text) ≡ tree w → TextOf text w
parsed-text text w h e = let x = (text-exactly (lexed text) w).0 e in record { short = h; tokens = x.0; spells = x.1 }

pub text-parsed : (text : List ℕ) (w : TableTree) → TextOf text w → parsed (lexed text) ≡ tree w
text-parsed text w x = (text-exactly (lexed text) w).1 (x.tokens, x.spells)

-- Bytes are a text of one tree at most, so a text stands for one table.
pub text-once : (text : List ℕ) (v w : TableTree) → TextOf text v → TextOf text w → v ≡ w
text-once text v w x y = one-tree (tokens_in (lexed text)) v w x.spells y.spells

-- What an accepted text gives: its table's bytes at the front of the buffer, their count, and six zeros. The bytes behind them stay.
pub accepted-gives : (text table : List ℕ) (w : TableTree) → Accepted text table w
    → read_text_of text table ≡ record { result = refusal 0 0; length = length (encode w); table = encode w ++ drop (length (encode w)) table }
accepted-gives text table w x = read-good text table x.0.short w (text-parsed text w x.0) x.1.room x.1.checked

-- A text is accepted exactly if it is one of the grammar, its table fits the buffer, and document 01's check of that table gives 0.
pub checked-exactly : (text table : List ℕ) → ((read_text_of text table).result.number ≡ 0) ↔ ((w : TableTree) × Accepted text table w)
checked-exactly text table = (there (way text table), back)
  where
    there : Way text table → (read_text_of text table).result.number ≡ 0 → (w : TableTree) × Accepted text table w
    there (long h e) z = absurd (omega (arith, number-of _ _ e))
    there (strange_byte p h q e) z = absurd (omega (arith, number-of _ _ e))
    there (wrong_token p h q e) z = absurd (omega (arith, number-of _ _ e))
    there (at_end h q e) z = absurd (omega (arith, number-of _ _ e))
    there (no_room w h q r e) z = absurd (omega (arith, number-of _ _ e))
    there (bad_table w h q r b e) z = absurd (omega (arith, number-of _ _ e))
    there (good_table w h q r b e) z = (w, (parsed-text text w h q, record { room = r; checked = b }))

    back : (w : TableTree) × Accepted text table w → (read_text_of text table).result.number ≡ 0
    back x = number-of _ _ (accepted-gives text table x.0 x.1)

pub good-check : (t : List ℕ) → (read_of t).verdict ≡ Ok tt → (check_of t).number ≡ 0
unfolding check_of verdict_result
good-check t e = rw e

-- A text of a well-formed tree is accepted, if its table fits the buffer.
pub formed-accepted : (text table : List ℕ) (w : TableTree) → TextOf text w → WellFormed w → length (encode w) ≤ length table → Accepted text table w
formed-accepted text table w x f r = (x, record { room = r; checked = good-check (encode w) (encoding-good w f) })
