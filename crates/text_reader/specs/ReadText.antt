-- Document 02, No. 2: what reading a text gives, from the bytes of the text and of the table's buffer to number, place, length and every byte of the
-- buffer. Refusals "48 text too long (place 0), 49 no token (its byte), 50 no rule of the grammar (the first token after which no text could go on, or
-- the text's length), 51 no room for the table or text (0), tested in that order; then 19, 20 and 22 with the place in the table that the text stands
-- for. A refused call writes nothing."
use Rattle.std.specs.Prelude.{ℕ, cond, List, ◌++◌, ltb, eqb, length, drop}
use Rattle.model.specs.declared.CallResult.{CallResult}
use Rattle.model.specs.Results.{refusal}
use Rattle.model.specs.Calls.{check_of}
use Rattle.grammar.specs.Encode.{encode}
pub use Rattle.text.specs.Token.{longest_text}
use Rattle.text.specs.Tokens.{lexed}
use Rattle.parsing.specs.Parsed.{Parsed, tree, strange, wrong, unfinished, parsed}

pub record ReadCall : Type 0 where
  pub result : CallResult
  pub length : ℕ
  pub table : List ℕ

module _ (text table : List ℕ) where
  abbrev pub read_refused : CallResult → ReadCall
  read_refused r = record { result = r; length = 0; table = table }

  -- the table t is written; bytes behind it stay
  abbrev pub read_written : List ℕ → ReadCall
  read_written t = record { result = refusal 0 0; length = length t; table = t ++ drop (length t) table }

  -- "then 19, 20 and 22": what document 01's check gives for these bytes
  unfoldable pub read_checked : List ℕ → ReadCall
  read_checked t = cond (eqb (check_of t).number 0) (read_written t) (read_refused (check_of t))

  -- "51 no room for the table", also where that table is bad
  unfoldable pub read_room : List ℕ → ReadCall
  read_room t = cond (ltb (length table) (length t)) (read_refused (refusal 51 0)) (read_checked t)

  unfoldable pub read_parsed : Parsed → ReadCall
  read_parsed (tree w) = read_room (encode w)
  read_parsed (strange p) = read_refused (refusal 49 p)
  read_parsed (wrong p) = read_refused (refusal 50 p)
  read_parsed unfinished = read_refused (refusal 50 (length text))

  unfoldable pub read_text_of : ReadCall
  read_text_of = cond (ltb longest_text (length text)) (read_refused (refusal 48 0)) (read_parsed (parsed (lexed text)))
