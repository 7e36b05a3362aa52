-- What a caller can rely on, whatever the bytes: a refused call writes nothing, and a call has one answer.
use Prim.Native.Nat.{ℕ, ◌≤◌}
use native.Mathlib.Omega.{arith}
use mathlib.Core.Path.{◌≡◌, refl, sym, ap, ◌∙◌}
use mathlib.Core.List.{List}
use Rattle.model.specs.declared.CallResult.{CallResult}
use Rattle.std.specs.Prelude.{Ok, Err}
use Rattle.model.specs.Refusals.{Verdict}
use Rattle.model.specs.Results.{refusal}
use Rattle.model.specs.Calls.{verdict_result, check_of}
use Rattle.text_reader.specs.ReadText.{ReadCall, read_refused, read_text_of}
use Rattle.text_reader.specs.Passing.{TextGiven}
use Rattle.text_reader.specs.declared.TextRead.{TextRead}
use Rattle.text_theorems.proofs.Cases.{Way, long, strange_byte, wrong_token, at_end, no_room, bad_table, good_table, way}
use Rattle.text_theorems.proofs.Accepted.{number-of}

module _ (text table : List ℕ) where
  -- nothing is written: every byte of the buffer is as before, and the length is 0
  pub record WritesNothing (r : ReadCall) : Type 0 where
    pub bytes : r.table ≡ table
    pub length : r.length ≡ 0

  nothing-written : {r : CallResult} → read_text_of text table ≡ read_refused text table r → WritesNothing (read_text_of text table)
  nothing-written e = record { bytes = ap (λ (x : ReadCall). x.table) e; length = ap (λ (x : ReadCall). x.length) e }

  -- A refused call writes nothing: with any number but 0 every byte of the buffer is as before, and the length is 0.
  pub refused-writes-nothing : 1 ≤ (read_text_of text table).result.number → WritesNothing (read_text_of text table)
  refused-writes-nothing z = by (way text table)
    where
      by : Way text table → WritesNothing (read_text_of text table)
      by (long h e) = nothing-written e
      by (strange_byte p h q e) = nothing-written e
      by (wrong_token p h q e) = nothing-written e
      by (at_end h q e) = nothing-written e
      by (no_room w h q r e) = nothing-written e
      by (bad_table w h q r b e) = nothing-written e
      by (good_table w h q r b e) = absurd (omega (arith, number-of _ _ e))

  -- a result that has a number and a place, and four zeros
  abbrev Uncounted : CallResult → Type 0
  Uncounted r = r ≡ refusal r.number r.place

  check-uncounted : (v : Verdict) → Uncounted (verdict_result v)
  unfolding verdict_result
  check-uncounted (Ok u) = refl
  check-uncounted (Err r) = refl

  -- The four counts of the result are 0: it is a number and a place.
  pub counts-zero : (read_text_of text table).result ≡ refusal (read_text_of text table).result.number (read_text_of text table).result.place
  unfolding check_of
  counts-zero = by (way text table)
    where
      by : Way text table → Uncounted (read_text_of text table).result
      by (long h e) = rw e
      by (strange_byte p h q e) = rw e
      by (wrong_token p h q e) = rw e
      by (at_end h q e) = rw e
      by (no_room w h q r e) = rw e
      by (bad_table w h q r b e) = rw e (check-uncounted _)
      by (good_table w h q r b e) = rw e

  -- A call has one answer: any two that the contract of reading allows have the same result, in all its words, the same length and the same bytes.
  pub one-read : (r r' : TextRead) (after after' : List ℕ) → TextGiven (read_text_of text table) r after → TextGiven (read_text_of text table) r' after'
      → (r.result ≡ r'.result) × ((r.length ≡ r'.length) × (after ≡ after'))
  one-read r r' after after' g g' = (g.result ∙ sym g'.result, (g.length ∙ sym g'.length, g.bytes ∙ sym g'.bytes))
