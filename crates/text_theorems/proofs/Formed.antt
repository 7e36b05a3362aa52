-- The texts that are accepted, said by the grammar and by what a well-formed tree is, with no word of the check: the tree of a text whose table the check
-- gives 0 is the one that is read back from that table.
use Prim.Native.Nat.{ℕ, ◌≤◌}
use mathlib.Core.Path.{◌≡◌, subst}
use mathlib.Core.Logic.{◌↔◌}
use mathlib.Core.List.{List, ◌++◌}
use lib.ListN.{length, drop}
use Rattle.model.specs.Results.{refusal}
use Rattle.model.specs.Calls.{check_of}
use Rattle.grammar.specs.Tree.{TableTree}
use Rattle.grammar.specs.Encode.{encode}
use Rattle.grammar.specs.Layout.{tree_of}
use Rattle.grammar.specs.WellFormed.{WellFormed}
use Rattle.grammar.proofs.Grammar.{good-encodes}
use Rattle.table_front.proofs.Front.{check-good}
use Rattle.parsing.proofs.Ranges.{ranged}
use Rattle.text_reader.specs.ReadText.{read_text_of}
use Rattle.text_theorems.proofs.Accepted.{TextOf, Accepted, text-once, accepted-gives, checked-exactly, formed-accepted}
use Rattle.text_theorems.proofs.Ranged.{tree-ranged, text-bytes}
use Rattle.text_theorems.proofs.Printing.{tokens-good, formed-shaped}
use Rattle.text_theorems.proofs.Encodings.{one-encoding}

-- A text's table gets 0 from document 01's check only if the text's tree is well formed.
pub checked-formed : (text : List ℕ) (w : TableTree) → TextOf text w → (check_of (encode w)).number ≡ 0 → WellFormed w
checked-formed text w x e =
    let g = good-encodes (encode w) (text-bytes text w x) (check-good (encode w) e) in
    let v = tree_of (encode w) in
    let same : v ≡ w = one-encoding v w (formed-shaped v g.formed) (ranged v (tokens-good v g.formed)) x.spells.shaped (tree-ranged text w x)
    g.bytes in
    subst WellFormed same g.formed

-- the grammar and document 01's table rules allow this text, as one of the tree w, and there is room for its table
pub record Allowed (text table : List ℕ) (w : TableTree) : Type 0 where
  pub spells : TextOf text w
  pub formed : WellFormed w
  pub room : length (encode w) ≤ length table

allowed-accepted : (text table : List ℕ) (w : TableTree) → Allowed text table w → Accepted text table w
allowed-accepted text table w x = formed-accepted text table w x.spells x.formed x.room

-- A text is accepted exactly if it is one of the grammar, of at most 65,536 bytes, its tree is well formed by document 01's table rules, and there is room
-- for its table.
pub accepted-exactly : (text table : List ℕ) → ((read_text_of text table).result.number ≡ 0) ↔ ((w : TableTree) × Allowed text table w)
accepted-exactly text table = (there, back)
  where
    there : (read_text_of text table).result.number ≡ 0 → (w : TableTree) × Allowed text table w
    there e =
        let x = (checked-exactly text table).0 e in
        let f = checked-formed text x.0 x.1.0 x.1.1.checked in
        (x.0, record { spells = x.1.0; formed = f; room = x.1.1.room })

    back : (w : TableTree) × Allowed text table w → (read_text_of text table).result.number ≡ 0
    back x = (checked-exactly text table).1 (x.0, allowed-accepted text table x.0 x.1)

-- Then its table's bytes stand at the front of the buffer, the length is theirs, the result is six zeros, and the bytes behind them are as before.
pub allowed-gives : (text table : List ℕ) (w : TableTree) → Allowed text table w
    → read_text_of text table ≡ record { result = refusal 0 0; length = length (encode w); table = encode w ++ drop (length (encode w)) table }
allowed-gives text table w x = accepted-gives text table w (allowed-accepted text table w x)

-- And there is no other tree for it.
pub allowed-once : (text table table' : List ℕ) (v w : TableTree) → Allowed text table v → Allowed text table' w → v ≡ w
allowed-once text table table' v w x y = text-once text v w x.spells y.spells
