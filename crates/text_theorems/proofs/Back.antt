-- Printing and reading: a good table's text reads back to the same bytes, and an accepted text and the text printed of its table stand for one table.
use Prim.Native.Nat.{ℕ, ◌≤◌}
use mathlib.Core.Path.{◌≡◌, refl, sym, ap, ◌∙◌, subst}
use mathlib.Core.List.{List, ◌++◌}
use native.Mathlib.Omega.{arith}
use lib.ListN.{length, take, drop}
use lib.Seq.{take_at}
use Rattle.std.specs.Prelude.{Ok, Err}
use Rattle.model.specs.declared.Refusal.{Refusal}
use Rattle.model.specs.Refusals.{Verdict}
use Rattle.model.specs.Results.{refusal}
use Rattle.model.specs.Reading.{read_of}
use Rattle.model.proofs.Ranges.{AreBytes}
use Rattle.grammar.specs.Tree.{TableTree}
use Rattle.grammar.specs.Encode.{encode}
use Rattle.grammar.specs.Layout.{tree_of}
use Rattle.grammar.specs.WellFormed.{WellFormed}
use Rattle.grammar.proofs.Grammar.{good-encodes}
use Rattle.table_front.proofs.Front.{check-good}
use Rattle.text.specs.Printed.{printed}
use Rattle.rule_writing.proofs.Short.{printed-short}
use Rattle.text_reader.specs.ReadText.{ReadCall, read_text_of}
use Rattle.text_printer.specs.PrintText.{PrintCall, print_text_of}
use Rattle.text_printer.proofs.Theorems.{print-cases}
use Rattle.text_theorems.proofs.Accepted.{Accepted, accepted-gives, checked-exactly, formed-accepted}
use Rattle.text_theorems.proofs.Ranged.{text-bytes}
use Rattle.text_theorems.proofs.Printing.{printed-text}

-- what reading gives where it writes the table t: t at the buffer's front, its length, six zeros; the bytes behind it stay
abbrev pub gives : List ℕ → List ℕ → ReadCall
gives t buffer = record { result = refusal 0 0; length = length t; table = t ++ drop (length t) buffer }

-- A well-formed tree, printed, is read back to its table.
pub tree-reads-back : (w : TableTree) → WellFormed w → (buffer : List ℕ) → length (encode w) ≤ length buffer
    → read_text_of (printed w) buffer ≡ gives (encode w) buffer
tree-reads-back w f buffer r = accepted-gives (printed w) buffer w (formed-accepted (printed w) buffer w (printed-text w f (printed-short w f)) f r)

-- A good table, printed, is read back to the same bytes, with six zeros, wherever there is room for it.
pub printed-reads-back : (t : List ℕ) → AreBytes t → (read_of t).verdict ≡ Ok tt → (buffer : List ℕ) → length t ≤ length buffer
    → read_text_of (printed (tree_of t)) buffer ≡ gives t buffer
printed-reads-back t u e buffer r =
    let g = good-encodes t u e in
    subst (λ (b : List ℕ). read_text_of (printed (tree_of t)) buffer ≡ gives b buffer) g.bytes
    (tree-reads-back (tree_of t) g.formed buffer (rw g.bytes r))

-- The two calls, one behind the other: what printing a table wrote, where its number is 0, is read back to the same bytes.
pub print-then-read : (t text_buffer : List ℕ) → AreBytes t → (read_of t).verdict ≡ Ok tt → (print_text_of t text_buffer).result.number ≡ 0
    → (buffer : List ℕ) → length t ≤ length buffer
    → read_text_of (take (print_text_of t text_buffer).length (print_text_of t text_buffer).text) buffer ≡ gives t buffer
print-then-read t text_buffer u e =
    print-cases t text_buffer
    (λ (o : PrintCall). o.result.number ≡ 0 → (buffer : List ℕ) → length t ≤ length buffer → read_text_of (take o.length o.text) buffer ≡ gives t buffer)
    (λ d h z buffer r. rw (take_at (printed (tree_of t)) (drop (length (printed (tree_of t))) text_buffer) (length (printed (tree_of t))) refl)
    (printed-reads-back t u e buffer r))
    (λ d z. absurd (full z))
    (λ r d z. absurd (bad (sym e ∙ d)))
  where
    full : ◌≡◌ {A = ℕ} 51 0 → ⊥
    full z = omega arith

    bad : {r : Refusal} → ◌≡◌ {A = Verdict} (Ok tt) (Err r) → ⊥
    bad z = let y : ◌≡◌ {A = ℕ} 0 1 = cc in omega arith

-- the bytes that reading a text writes
abbrev pub written : List ℕ → List ℕ → List ℕ
written text buffer = take (read_text_of text buffer).length (read_text_of text buffer).table

accepted-written : (text buffer : List ℕ) (w : TableTree) → Accepted text buffer w → written text buffer ≡ encode w
accepted-written text buffer w x =
    ap (λ (r : ReadCall). take r.length r.table) (accepted-gives text buffer w x)
    ∙ take_at (encode w) (drop (length (encode w)) buffer) (length (encode w)) refl

-- An accepted text and the text printed of the table that it was read to stand for one table: read into the same buffer, they give the same result, length
-- and bytes.
pub text-back : (text buffer : List ℕ) → (read_text_of text buffer).result.number ≡ 0
    → read_text_of (printed (tree_of (written text buffer))) buffer ≡ read_text_of text buffer
text-back text buffer e =
    let x = (checked-exactly text buffer).0 e in
    let w = x.0 in
    let d : encode w ≡ written text buffer = sym (accepted-written text buffer w x.1) in
    subst (λ (t : List ℕ). read_text_of (printed (tree_of t)) buffer ≡ read_text_of text buffer) d
    (printed-reads-back (encode w) (text-bytes text w x.1.0) (check-good (encode w) x.1.1.checked) buffer x.1.1.room
    ∙ sym (accepted-gives text buffer w x.1))
