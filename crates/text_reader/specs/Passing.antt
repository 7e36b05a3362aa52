-- What the parts of reading come to: a pass over the text, and the call.
use Rattle.std.specs.Prelude.{ℕ, ◌+◌, ◌≡◌, Bool, true, false, Option, Some, None, Result, Ok, Err, List, length, set, replicate}
use Rattle.model.specs.declared.Reason.TheVariants.{NoToken, NoGrammarRule}
use Rattle.model.specs.declared.Refusal.{Refusal}
use Rattle.model.specs.Results.{refusal, refused_result}
use Rattle.model.specs.Refusals.{refused}
use Rattle.grammar.specs.Encode.{encode}
use Rattle.parsing.specs.Parsed.{Parsed, tree, strange, wrong, unfinished}
use Rattle.assembly.specs.declared.Assembly.{Assembly}
use Rattle.assembly.specs.Moves.{ends}
use Rattle.assembled.specs.Holds.{Held}
use Rattle.text_reader.specs.ReadText.{ReadCall, read_room}
use Rattle.text_reader.specs.declared.TextRead.{TextRead}

-- ---- a pass

-- the length of a text's table, or the refusal of the text, which is of n bytes
abbrev pub passed_of : ℕ → Parsed → Result ℕ Refusal
passed_of n (tree w) = Ok (length (encode w))
passed_of n (strange p) = refused NoToken p
passed_of n (wrong p) = refused NoGrammarRule p
passed_of n unfinished = refused NoGrammarRule n

-- a whole text's table is in the buffer, as far as it goes
abbrev pub HeldBy : Parsed → List ℕ → Type 0
HeldBy (tree w) buf = Held buf (encode w)
HeldBy (strange p) buf = Unit {0}
HeldBy (wrong p) buf = Unit {0}
HeldBy unfinished buf = Unit {0}

pub record PassedIs (n : ℕ) (o : Parsed) (r : Result ℕ Refusal) (buf : List ℕ) : Type 0 where
  pub same : r ≡ passed_of n o
  pub held : HeldBy o buf

-- a buffer of zeros
pub record Blank (buf : List ℕ) : Type 0 where
  pub zeros : buf ≡ replicate (length buf) 0

-- the end of a text: the byte that ends the table is laid, where a text may end
abbrev pub FinishedBy : Bool → ℕ → List ℕ → Option ℕ → List ℕ → Type 0
FinishedBy true at before r after = (r ≡ Some (at + 1)) × (after ≡ set before at 8)
FinishedBy false at before r after = (r ≡ None) × (after ≡ before)

pub record Finished (a : Assembly) (before : List ℕ) (r : Option ℕ) (after : List ℕ) : Type 0 where
  pub by : FinishedBy (ends a.phase) a.at before r after

-- ---- the call

pub record TextGiven (o : ReadCall) (r : TextRead) (after : List ℕ) : Type 0 where
  pub result : r.result ≡ o.result
  pub length : r.length ≡ o.length
  pub bytes : after ≡ o.table

-- how many bytes were written, or the refusal
abbrev pub text_read : Result ℕ Refusal → TextRead
text_read (Ok n) = record { result = refusal 0 0; length = n }
text_read (Err r) = record { result = refused_result r; length = 0 }

pub record TextIs (o : ReadCall) (r : Result ℕ Refusal) (after : List ℕ) : Type 0 where
  pub given : TextGiven o (text_read r) after

-- a table t of n bytes, of which the room holds what it can
pub record RoomGiven (assembled : List ℕ) (n : ℕ) (before : List ℕ) (r : Result ℕ Refusal) (after : List ℕ) : Type 0 where
  pub gives : (text t : List ℕ) → n ≡ length t → Held assembled t → TextIs (read_room text before t) r after
