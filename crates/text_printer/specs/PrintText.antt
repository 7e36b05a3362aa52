-- The call that prints a table as text: from the bytes that it is given to its whole result, and to every byte of the lent buffer.
use Rattle.std.specs.Prelude.{ℕ, ◌≡◌, Bool, true, false, List, ◌++◌, Result, Ok, Err, leb, length, drop}
use Rattle.model.specs.declared.CallResult.{CallResult}
use Rattle.model.specs.declared.Reason.TheVariants.{NoRoom}
use Rattle.model.specs.declared.Refusal.{Refusal}
use Rattle.model.specs.Refusals.{Verdict}
use Rattle.model.specs.Reading.{read_of}
use Rattle.model.specs.Results.{refusal, refused_result}
use Rattle.grammar.specs.Layout.{tree_of}
use Rattle.text.specs.Printed.{printed}
use Rattle.text_printer.specs.declared.Printing.{Printing}

-- the result, how many bytes were written, and the buffer's bytes at the return
pub record PrintCall : Type 0 where
  pub result : CallResult
  pub length : ℕ
  pub text : List ℕ

-- "A refused call writes nothing."
abbrev pub refused_print : Refusal → List ℕ → PrintCall
refused_print r buffer = record { result = refused_result r; length = 0; text = buffer }

-- the text at the buffer's front; bytes behind those written stay
abbrev pub printed_into : List ℕ → List ℕ → PrintCall
printed_into buffer t = record { result = refusal 0 0; length = length t; text = t ++ drop (length t) buffer }

module _ (table buffer : List ℕ) where
  -- 51: "no room for the table or text (0)"
  unfoldable pub print_room : Bool → PrintCall
  print_room true = printed_into buffer (printed (tree_of table))
  print_room false = refused_print (record { reason = NoRoom; place = 0 }) buffer

  -- "A printer refuses bad tables as document 01 does and prints any good one as text"
  unfoldable pub print_table : Verdict → PrintCall
  print_table (Ok u) = print_room (leb (length (printed (tree_of table))) (length buffer))
  print_table (Err r) = refused_print r buffer

  unfoldable pub print_text_of : PrintCall
  print_text_of = print_table (read_of table).verdict

-- the result, the length and every byte of the buffer are the definition's
pub record Prints (o : PrintCall) (r : Printing) (text : List ℕ) : Type 0 where
  pub result : r.result ≡ o.result
  pub length : r.length ≡ o.length
  pub bytes : text ≡ o.text

-- how many bytes were written, or the refusal, as the call gives it back
abbrev pub printing_of : Result ℕ Refusal → Printing
printing_of (Ok n) = record { result = refusal 0 0; length = n }
printing_of (Err r) = record { result = refused_result r; length = 0 }
