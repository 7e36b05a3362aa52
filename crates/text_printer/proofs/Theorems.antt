-- What the call's definition promises, for every table and every buffer.
use Prim.Native.Nat.{ℕ, ◌≤◌}
use mathlib.Core.Path.{◌≡◌, refl, sym, ap, ◌∙◌}
use mathlib.Core.Logic.{◌⊎◌, inl, inr}
use mathlib.Core.Bool.{Bool, true, false}
use mathlib.Core.List.{List}
use native.Mathlib.Omega.{arith}
use lib.Dec.{leb}
use lib.ListN.{length, drop, length-append, length-drop}
use borrow.Author.Tests.{le-leb, leb-true}
use Rattle.std.specs.Prelude.{Ok, Err}
use Rattle.model.specs.declared.CallResult.{CallResult}
use Rattle.model.specs.declared.Reason.TheVariants.{NoRoom}
use Rattle.model.specs.declared.Refusal.{Refusal}
use Rattle.model.specs.Refusals.{Verdict}
use Rattle.model.specs.Reading.{read_of}
use Rattle.model.specs.Results.{refusal}
use Rattle.model.specs.Calls.{verdict_result, check_of}
use Rattle.model.proofs.Ranges.{AreBytes}
use Rattle.grammar.specs.Layout.{tree_of}
use Rattle.text.specs.Printed.{printed}
use Rattle.text_writing.specs.Written.{longest_text}
use Rattle.rule_writing.proofs.Short.{good-table-short}
use Rattle.text_printer.specs.declared.Printing.{Printing}
use Rattle.text_printer.specs.PrintText.{PrintCall, refused_print, printed_into, print_room, print_table, print_text_of, Prints}

-- ---- the contract allows one outcome alone

pub record SamePrint (r r' : Printing) (text text' : List ℕ) : Type 0 where
  pub given : r ≡ r'
  pub bytes : text ≡ text'

abbrev outcome_of : CallResult → ℕ → Printing
outcome_of r n = record { result = r; length = n }

pub one-print : {o : PrintCall} {r r' : Printing} {text text' : List ℕ} → Prints o r text → Prints o r' text' → SamePrint r r' text text'
one-print {r = r} {r'} a b = record {
  given =
      ap (λ (x : CallResult). outcome_of x r.length) (a.result ∙ sym b.result)
      ∙ ap (λ (n : ℕ). outcome_of r'.result n) (a.length ∙ sym b.length);
  bytes = a.bytes ∙ sym b.bytes;
}

-- ---- every call, by its three cases

module _ (t buffer : List ℕ) (P : PrintCall → Type 0) where
  pub print-cases : ((read_of t).verdict ≡ Ok tt → length (printed (tree_of t)) ≤ length buffer → P (printed_into buffer (printed (tree_of t))))
      → ((read_of t).verdict ≡ Ok tt → P (refused_print (record { reason = NoRoom; place = 0 }) buffer))
      → ((r : Refusal) → (read_of t).verdict ≡ Err r → P (refused_print r buffer))
      → P (print_text_of t buffer)
  unfolding print_text_of print_table print_room
  print-cases fits full bad = go (read_of t).verdict refl
    where
      fit : (read_of t).verdict ≡ Ok tt → (b : Bool) → leb (length (printed (tree_of t))) (length buffer) ≡ b → P (print_room t buffer b)
      fit e true d = fits e (leb-true (length (printed (tree_of t))) (length buffer) d)
      fit e false d = full e

      go : (v : Verdict) → (read_of t).verdict ≡ v → P (print_table t buffer v)
      go (Ok u) e = fit e (leb (length (printed (tree_of t))) (length buffer)) refl
      go (Err r) e = bad r e

module _ (t buffer : List ℕ) where
  abbrev call : PrintCall
  call = print_text_of t buffer

  checked : {v : Verdict} → (read_of t).verdict ≡ v → verdict_result v ≡ check_of t
  unfolding check_of
  checked e = ap verdict_result (sym e)

  -- "A printer refuses bad tables as document 01 does": the result is that of the check, or 51
  pub result-is : (call.result ≡ check_of t) ⊎ (call.result ≡ refusal 51 0)
  unfolding verdict_result
  result-is =
      print-cases t buffer (λ (o : PrintCall). (o.result ≡ check_of t) ⊎ (o.result ≡ refusal 51 0)) (λ e h. inl (checked e)) (λ e. inr refl)
      (λ r e. inl (checked e))

  -- "A refused call writes nothing."
  pub record Kept (o : PrintCall) : Type 0 where
    pub none : o.length ≡ 0
    pub bytes : o.text ≡ buffer

  pub refused-kept : (call.result.number ≡ 0 → ⊥) → Kept call
  refused-kept =
      print-cases t buffer (λ (o : PrintCall). (o.result.number ≡ 0 → ⊥) → Kept o) (λ e h d. absurd (d refl)) (λ e d. record { none = refl; bytes = refl })
      (λ r e d. record { none = refl; bytes = refl })

  -- the buffer keeps its length, whatever comes
  pub buffer-long : length call.text ≡ length buffer
  buffer-long =
      print-cases t buffer (λ (o : PrintCall). length o.text ≡ length buffer)
      (λ e h. length-append (printed (tree_of t)) (drop (length (printed (tree_of t))) buffer)
      ∙ omega (arith, length-drop (length (printed (tree_of t))) buffer))
      (λ e. refl) (λ r e. refl)

  -- 65,536 bytes have room for every good table's text
  pub always-room : AreBytes t → (read_of t).verdict ≡ Ok tt → longest_text ≤ length buffer → call ≡ printed_into buffer (printed (tree_of t))
  unfolding print_text_of print_table print_room
  always-room u e h = rw (e, le-leb (length (printed (tree_of t))) (length buffer) (omega (arith, good-table-short t u e)))
