-- What the next token is.
use Rattle.std.specs.Prelude.{◌+◌, ◌<◌, ◌≡◌, Option, Some, None, Result, Ok, Err, length}
use Rattle.model.specs.declared.Reason.TheVariants.{NoToken}
use Rattle.model.specs.declared.Refusal.{Refusal}
use Rattle.text.specs.Tokens.{Lexed, end, no_token, next, lexed_from}
use Rattle.tokens.specs.Views.{token_of}
use Rattle.text_reader.specs.declared.lexing.Placed.{Placed}
use Rattle.text_reader.specs.declared.lexing.Tokens.{Tokens}

-- the tokens that are left
abbrev pub lexed_in : Tokens → Lexed
lexed_in t = lexed_from 0 t.after t.at t.rest.now

-- by the next one; `t` are those behind it
abbrev pub lexed_next : Tokens → Option (Result Placed Refusal) → Lexed
lexed_next t None = end
lexed_next t (Some (Err r)) = no_token r.place
lexed_next t (Some (Ok k)) = next k.place (token_of k.token) (lexed_in t)

abbrev pub NextGood : Tokens → Tokens → Option (Result Placed Refusal) → Type 0
NextGood before after None = Unit {0}
NextGood before after (Some (Err r)) = r.reason ≡ NoToken
NextGood before after (Some (Ok k)) =
    (length after.rest.now < length before.rest.now) × ((k.place < after.at) × (after.at + length after.rest.now ≡ before.at + length before.rest.now))

pub record NextIs (before after : Tokens) (r : Option (Result Placed Refusal)) : Type 0 where
  pub same : lexed_in before ≡ lexed_next after r
  pub good : NextGood before after r
