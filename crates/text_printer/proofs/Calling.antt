-- The call, case by case: a refused table, a buffer without room, and a text that is written.
use Prim.Native.Nat.{ℕ, ◌≤◌, ◌<◌}
use mathlib.Core.Path.{◌≡◌, refl, sym, ap, ◌∙◌}
use mathlib.Core.List.{List}
use native.Mathlib.Omega.{arith}
use lib.ListN.{length}
use borrow.Author.Tests.{le-leb, lt-leb}
use Rattle.std.specs.Prelude.{Ok, Err}
use Rattle.model.specs.declared.Reason.TheVariants.{NoRoom}
use Rattle.model.specs.declared.Reading.{Reading}
use Rattle.model.specs.declared.Refusal.{Refusal}
use Rattle.model.specs.Reading.{read_of}
use Rattle.grammar.specs.Layout.{tree_of}
use Rattle.rule_weights.specs.Views.{Counted}
use Rattle.text.specs.Printed.{printed}
use Rattle.text_writing.specs.Written.{longest_text, written}
use Rattle.text_writing.proofs.Writes.{written-front}
use Rattle.text_printer.specs.PrintText.{print_room, print_table, print_text_of, printing_of, Prints}

module _ (t text : List ℕ) {reading : Reading} (e : reading ≡ read_of t) where
  verdict-is : (read_of t).verdict ≡ reading.verdict
  verdict-is = ap (λ (r : Reading). r.verdict) (sym e)

  pub refused : {r : Refusal} → reading.verdict ≡ Err r → Prints (print_text_of t text) (printing_of (Err r)) text
  unfolding print_text_of print_table
  refused d = rw (verdict-is ∙ d) (record { result = refl; length = refl; bytes = refl })

  module _ (d : reading.verdict ≡ Ok tt) {long : ℕ} (m : Counted (length (printed (tree_of t))) longest_text long) where
    pub no-room : length text < long → Prints (print_text_of t text) (printing_of (Err (record { reason = NoRoom; place = 0 }))) text
    unfolding print_text_of print_table print_room
    no-room h =
        rw (verdict-is ∙ d, lt-leb (length (printed (tree_of t))) (length text) (omega (arith, m.same)))
        (record { result = refl; length = refl; bytes = refl })

    pub room : long ≤ length text → {out : List ℕ} → out ≡ written 0 (printed (tree_of t)) text → Prints (print_text_of t text) (printing_of (Ok long)) out
    unfolding print_text_of print_table print_room
    room h w =
        let fits : length (printed (tree_of t)) ≤ length text = omega (arith, m.same) in
        rw (verdict-is ∙ d, le-leb (length (printed (tree_of t))) (length text) fits)
        (record { result = refl; length = m.same; bytes = w ∙ written-front (printed (tree_of t)) text fits })
