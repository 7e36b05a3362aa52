-- The tokens of a text, each with its place, its first byte. "49 no token (its byte)": anywhere in the text, so that a text has all its tokens or
-- has none there.
use Rattle.std.specs.Prelude.{ℕ, zero, suc, ◌-◌, Bool, false, cond, List, [], ◌∷◌}
use Rattle.text.specs.Token.{Token, is_slot}
use Rattle.text.specs.Spelling.{Found, found, nothing, is_blank, token_at}

-- the tokens from some place on, up to the end of the text or to a byte at which there is none
pub data Lexed : Type 0 where
  end : Lexed
  no_token : ℕ → Lexed
  next : ℕ → Token → Lexed → Lexed

-- a token and its length n at place p: `more` reads on behind it
unfoldable pub lexed_by : ℕ → (ℕ → Bool → Lexed) → Found → Lexed
lexed_by p more (found t n) = next p t (more (n - 1) (is_slot t))
lexed_by p more nothing = no_token p

-- from place p on, where the bytes of the token before still take `skip` bytes
unfoldable pub lexed_from : ℕ → Bool → ℕ → List ℕ → Lexed
lexed_from skip after p [] = end
lexed_from (suc skip) after p (b ∷ bs) = lexed_from skip after (suc p) bs
lexed_from zero after p (b ∷ bs) =
    cond (is_blank b) (lexed_from zero after (suc p) bs)
    (lexed_by p (λ n slot. lexed_from n slot (suc p) bs) (token_at after (b ∷ bs)))

unfoldable pub lexed : List ℕ → Lexed
lexed text = lexed_from 0 false 0 text

-- the tokens alone
unfoldable pub tokens_in : Lexed → List Token
tokens_in end = []
tokens_in (no_token p) = []
tokens_in (next p t more) = t ∷ tokens_in more

-- every byte of the text belongs to a token or is a blank between tokens
abbrev pub AllTokens : Lexed → Type 0
AllTokens end = Unit {0}
AllTokens (no_token p) = ⊥
AllTokens (next p t more) = AllTokens more
