-- What is found at the front is the definition's token, by the first byte.
use Prim.Native.Nat.{ℕ, suc, ◌-◌, ◌≤◌, ◌<◌}
use native.Mathlib.Omega.{arith}
use mathlib.Core.Path.{◌≡◌, refl, sym, ◌∙◌}
use mathlib.Core.Bool.{Bool, true, false, cond, not, ◌&&◌}
use mathlib.Core.List.{List, [], ◌∷◌}
use lib.Dec.{eqb}
use lib.ListN.{length, get_or, take, drop}
use lib.Seq.{take-length}
use borrow.Author.Tests.{eq-eqb, ne_eqb}
use Rattle.text.specs.Spelling.{Found, begins, is_word_byte, run, word, negated, signs, sign_of, token_at}
use Rattle.text.proofs.Lexing.{run-some, found-length}
use Rattle.std.specs.Prelude.{Option, Some, None, IfSome}
use Rattle.tokens.specs.declared.Spelled.{Spelled}
use Rattle.tokens.specs.Views.{found_of}

module _ (bs : List ℕ) (some : 1 ≤ length bs) where
  pub begun : true ≡ is_word_byte (get_or bs 0 0) → 0 < run bs
  begun e = go bs some e
    where
      go : (bs : List ℕ) → 1 ≤ length bs → true ≡ is_word_byte (get_or bs 0 0) → 0 < run bs
      go [] h e = absurd (omega arith)
      go (b ∷ bs) h e = rw (run-some b bs (sym e)) (omega arith)

module _ (after : Bool) where
  -- the first byte is there
  token-is : (bs : List ℕ) → 1 ≤ length bs → token_at after bs
      ≡ cond (is_word_byte (get_or bs 0 0)) (word (run bs) bs)
      (cond (eqb (get_or bs 0 0) 45 && not after) (negated (run (drop 1 bs)) (drop 1 bs)) (sign_of signs bs))
  unfolding token_at
  token-is [] h = absurd (omega arith)
  token-is (b ∷ bs) h = refl

  pub no_byte : {f : Found} (bs : List ℕ) → length bs < 1 → f ≡ sign_of signs bs → f ≡ token_at after bs
  unfolding token_at sign_of signs begins
  no_byte [] h e = e
  no_byte (b ∷ bs) h e = absurd (omega arith)

  module _ {f : Found} (bs : List ℕ) (some : 1 ≤ length bs) where
    pub word_found : true ≡ is_word_byte (get_or bs 0 0) → f ≡ word (run bs) bs → f ≡ token_at after bs
    word_found e h = sym (token-is bs some ∙ rw (← e) (sym h))

    module _ (no_word : false ≡ is_word_byte (get_or bs 0 0)) where
      pub minus_found : get_or bs 0 0 ≡ 45 → after ≡ false → f ≡ negated (run (take (length bs - 1) (drop 1 bs))) (take (length bs - 1) (drop 1 bs))
          → f ≡ token_at after bs
      minus_found e a h = h ∙ rw (all bs) (sym (token-is bs some ∙ rw (← no_word, eq-eqb (get_or bs 0 0) 45 e, a)))
        where
          all : (bs : List ℕ) → take (length bs - 1) (drop 1 bs) ≡ drop 1 bs
          all [] = refl
          all (b ∷ bs) = let less : suc (length bs) - 1 ≡ length bs = omega arith in rw (less, take-length bs)

      pub operation_found : get_or bs 0 0 ≡ 45 → after ≡ true → f ≡ sign_of signs bs → f ≡ token_at after bs
      operation_found e a h = h ∙ sym (token-is bs some ∙ rw (← no_word, eq-eqb (get_or bs 0 0) 45 e, a))

      pub sign_found : (get_or bs 0 0 ≡ 45 → ⊥) → f ≡ sign_of signs bs → f ≡ token_at after bs
      sign_found n h = h ∙ sym (token-is bs some ∙ rw (← no_word, ne_eqb (get_or bs 0 0) 45 n))

-- a token has a byte, and lies inside
pub within : (after : Bool) (bs : List ℕ) (r : Option Spelled) → found_of r ≡ token_at after bs → IfSome r (λ s. (1 ≤ s.length) × (s.length ≤ length bs))
within after bs None e = tt
within after bs (Some s) e = found-length after bs (sym e)

pub ruleset first_byte = (begun, word_found, minus_found)
