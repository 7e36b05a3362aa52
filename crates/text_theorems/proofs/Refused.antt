-- Which texts are refused, with which number and place: 48, 49, 50 and 51, each exactly, and behind them what document 01's check gives.
use Prim.Native.Nat.{ℕ, zero, suc, ◌≤◌, ◌<◌}
use native.Mathlib.Omega.{arith}
use mathlib.Core.Path.{◌≡◌, refl, sym, ap, ◌∙◌, subst}
use mathlib.Core.Logic.{◌↔◌, ◌⊎◌, inl, inr}
use mathlib.Core.Bool.{false}
use mathlib.Core.Option.{some}
use mathlib.Core.List.Memᴰ
use mathlib.Core.List.{List, [], ◌∷◌}
use lib.ListN.{length}
use Rattle.model.specs.declared.CallResult.{CallResult}
use Rattle.model.specs.Results.{refusal}
use Rattle.model.specs.Calls.{verdict_result, check_of}
use Rattle.table_front.proofs.Front.{check-good}
use Rattle.grammar.specs.Tree.{TableTree}
use Rattle.grammar.specs.Encode.{encode}
use Rattle.text.specs.Tokens.{Lexed, end, no_token, next, lexed}
use Rattle.text.proofs.First.{stops_at, NoToken, stops-none, none-stops}
use Rattle.parsing.proofs.Exactly.{EndsAt, WrongAt, Unfinished, wrong-exactly, unfinished-exactly, strange-exactly}
use Rattle.parsing.proofs.Tables.{Among, only-19-20-22}
use Rattle.text_reader.specs.ReadText.{ReadCall, read_text_of}
use Rattle.text_theorems.proofs.Cases.{read-long, read-strange, read-wrong, read-unfinished, read-no-room, read-bad, read-good, Way, way}
use Rattle.text_theorems.proofs.Cases.{long, strange_byte, wrong_token, at_end, no_room, bad_table, good_table}
use Rattle.text_theorems.proofs.Accepted.{TextOf, number-of, parsed-text, text-parsed}

-- ---- what a result says

-- number and place of what is read
abbrev pub Says : List ℕ → List ℕ → ℕ → ℕ → Type 0
Says text table n p = ((read_text_of text table).result.number ≡ n) × ((read_text_of text table).result.place ≡ p)

said : (text table : List ℕ) {r : CallResult} → (read_text_of text table).result ≡ r → Says text table r.number r.place
said text table e = (ap (λ (x : CallResult). x.number) e, ap (λ (x : CallResult). x.place) e)

result-of : {r s : ReadCall} → r ≡ s → r.result ≡ s.result
result-of e = ap (λ (x : ReadCall). x.result) e

abbrev Three : ℕ → Type 0
Three n = Among (0 ∷ 19 ∷ 20 ∷ 22 ∷ []) n

three-low : {n : ℕ} → Three n → n ≤ 22
three-low (Memᴰ.head e) = omega arith
three-low (Memᴰ.tail (Memᴰ.head e)) = omega arith
three-low (Memᴰ.tail (Memᴰ.tail (Memᴰ.head e))) = omega arith
three-low (Memᴰ.tail (Memᴰ.tail (Memᴰ.tail (Memᴰ.head e)))) = omega arith
three-low (Memᴰ.tail (Memᴰ.tail (Memᴰ.tail (Memᴰ.tail m)))) = elim m [ ]

check-low : (text : List ℕ) (w : TableTree) → TextOf text w → (check_of (encode w)).number ≤ 22
check-low text w x = three-low (only-19-20-22 w x.spells.shaped)

ends-stops : (l : Lexed) (p : ℕ) → EndsAt l p → stops_at l ≡ some p
unfolding stops_at
ends-stops end p e = absurd e
ends-stops (no_token q) p e = ap some e
ends-stops (next q t more) p e = ends-stops more p e

stops-ends : (l : Lexed) (p : ℕ) → stops_at l ≡ some p → EndsAt l p
unfolding stops_at
stops-ends end p e = absurd (let z : ◌≡◌ {A = ℕ} 0 1 = cc in omega arith)
stops-ends (no_token q) p e = cc
stops-ends (next q t more) p e = stops-ends more p e

-- where the check gives 0, it gives six zeros
good-result : (t : List ℕ) → (check_of t).number ≡ 0 → check_of t ≡ refusal 0 0
unfolding check_of verdict_result
good-result t e = ap verdict_result (check-good t e)

module _ (text table : List ℕ) where
  -- ---- 48

  -- 48 comes exactly of a text of more than 65,536 bytes, whatever these are. Its place is 0.
  pub refused-48 : ((read_text_of text table).result.number ≡ 48) ↔ (65536 < length text)
  refused-48 = (there (way text table), (λ h. number-of _ _ (read-long text table h)))
    where
      there : Way text table → (read_text_of text table).result.number ≡ 48 → 65536 < length text
      there (long h e) z = h
      there (strange_byte p h q e) z = absurd (omega (arith, number-of _ _ e))
      there (wrong_token p h q e) z = absurd (omega (arith, number-of _ _ e))
      there (at_end h q e) z = absurd (omega (arith, number-of _ _ e))
      there (no_room w h q r e) z = absurd (omega (arith, number-of _ _ e))
      there (bad_table w h q r b e) z = absurd (omega (arith, number-of _ _ e, check-low text w (parsed-text text w h q)))
      there (good_table w h q r b e) z = absurd (omega (arith, number-of _ _ e))

  pub place-48 : 65536 < length text → (read_text_of text table).result ≡ refusal 48 0
  place-48 h = result-of (read-long text table h)

  -- ---- 49

  -- 49 at p comes exactly of a text that is not too long, at whose byte p there is no token: the bytes before p are tokens with blanks between them, at p
  -- stands no blank, and what begins there is none of the spellings. The tokens before p need not be those of a text.
  pub refused-49 : (p : ℕ) → Says text table 49 p ↔ ((length text ≤ 65536) × NoToken false text p)
  refused-49 p = (there (way text table), back)
    where
      there : Way text table → Says text table 49 p → (length text ≤ 65536) × NoToken false text p
      there (long h e) z = absurd (omega (arith, number-of _ _ e, z.0))
      there (strange_byte q h f e) z =
          let same : q ≡ p = sym (said text table (result-of e)).1 ∙ z.1 in
          (h, subst (λ (m : ℕ). NoToken false text m) same (stops-none text q (ends-stops (lexed text) q ((strange-exactly (lexed text) q).0 f))))
      there (wrong_token q h f e) z = absurd (omega (arith, number-of _ _ e, z.0))
      there (at_end h q e) z = absurd (omega (arith, number-of _ _ e, z.0))
      there (no_room w h q r e) z = absurd (omega (arith, number-of _ _ e, z.0))
      there (bad_table w h q r b e) z = absurd (omega (arith, number-of _ _ e, check-low text w (parsed-text text w h q), z.0))
      there (good_table w h q r b e) z = absurd (omega (arith, number-of _ _ e, z.0))

      back : (length text ≤ 65536) × NoToken false text p → Says text table 49 p
      back x =
          let ends = stops-ends (lexed text) p (none-stops text p x.1) in
          said text table (result-of (read-strange text table x.0 p ((strange-exactly (lexed text) p).1 ends)))

  -- ---- 50

  -- the first token with which the tokens of the text begin no text stands at p; or they begin one and are none, and p is the text's length
  abbrev pub NoRule : ℕ → Type 0
  NoRule p = WrongAt (lexed text) p ⊎ (Unfinished (lexed text) × (p ≡ length text))

  -- 50 at p comes exactly of a text that is not too long and all tokens, where p is the first byte of the first token after which no text of the grammar
  -- goes on, or, where the tokens begin a text and are none yet, the text's length.
  pub refused-50 : (p : ℕ) → Says text table 50 p ↔ ((length text ≤ 65536) × NoRule p)
  refused-50 p = (there (way text table), (λ x. back x.0 x.1))
    where
      there : Way text table → Says text table 50 p → (length text ≤ 65536) × NoRule p
      there (long h e) z = absurd (omega (arith, number-of _ _ e, z.0))
      there (strange_byte q h f e) z = absurd (omega (arith, number-of _ _ e, z.0))
      there (wrong_token q h f e) z =
          let same : q ≡ p = sym (said text table (result-of e)).1 ∙ z.1 in
          (h, inl (subst (λ (m : ℕ). WrongAt (lexed text) m) same ((wrong-exactly (lexed text) q).0 f)))
      there (at_end h q e) z = (h, inr ((unfinished-exactly (lexed text)).0 q, sym z.1 ∙ (said text table (result-of e)).1))
      there (no_room w h q r e) z = absurd (omega (arith, number-of _ _ e, z.0))
      there (bad_table w h q r b e) z = absurd (omega (arith, number-of _ _ e, check-low text w (parsed-text text w h q), z.0))
      there (good_table w h q r b e) z = absurd (omega (arith, number-of _ _ e, z.0))

      back : length text ≤ 65536 → NoRule p → Says text table 50 p
      back h (inl x) = said text table (result-of (read-wrong text table h p ((wrong-exactly (lexed text) p).1 x)))
      back h (inr x) =
          let s = said text table (result-of (read-unfinished text table h ((unfinished-exactly (lexed text)).1 x.0))) in
          (s.0, s.1 ∙ sym x.1)

  -- ---- 51

  -- the bytes are a text whose table is longer than the buffer
  pub record NoRoom : Type 0 where
    pub tree : TableTree
    pub stands : TextOf text tree
    pub longer : length table < length (encode tree)

  -- 51 comes exactly of a text whose table is longer than the buffer, also where that table is bad. Its place is 0.
  pub refused-51 : ((read_text_of text table).result.number ≡ 51) ↔ NoRoom
  refused-51 = (there (way text table), back)
    where
      there : Way text table → (read_text_of text table).result.number ≡ 51 → NoRoom
      there (long h e) z = absurd (omega (arith, number-of _ _ e))
      there (strange_byte p h q e) z = absurd (omega (arith, number-of _ _ e))
      there (wrong_token p h q e) z = absurd (omega (arith, number-of _ _ e))
      there (at_end h q e) z = absurd (omega (arith, number-of _ _ e))
      there (no_room w h q r e) z = record { tree = w; stands = parsed-text text w h q; longer = r }
      there (bad_table w h q r b e) z = absurd (omega (arith, number-of _ _ e, check-low text w (parsed-text text w h q)))
      there (good_table w h q r b e) z = absurd (omega (arith, number-of _ _ e))

      back : NoRoom → (read_text_of text table).result.number ≡ 51
      back x = number-of _ _ (read-no-room text table x.stands.short x.tree (text-parsed text x.tree x.stands) x.longer)

  pub place-51 : NoRoom → (read_text_of text table).result ≡ refusal 51 0
  place-51 x = result-of (read-no-room text table x.stands.short x.tree (text-parsed text x.tree x.stands) x.longer)

  -- ---- the rest

  -- Of every other text number and place are those that document 01's check gives for the bytes of its table, and the number is 0, 19, 20 or 22.
  pub refused-rest : (w : TableTree) → TextOf text w → length (encode w) ≤ length table
      → ((read_text_of text table).result ≡ check_of (encode w)) × Among (0 ∷ 19 ∷ 20 ∷ 22 ∷ []) (check_of (encode w)).number
  refused-rest w x r = (by (check_of (encode w)).number refl, only-19-20-22 w x.spells.shaped)
    where
      by : (n : ℕ) → (check_of (encode w)).number ≡ n → (read_text_of text table).result ≡ check_of (encode w)
      by zero e = result-of (read-good text table x.short w (text-parsed text w x) r e) ∙ sym (good-result (encode w) e)
      by (suc n) e = result-of (read-bad text table x.short w (text-parsed text w x) r (omega arith))

  -- ---- all numbers

  -- Reading a text gives 0, 19, 20, 22, 48, 49, 50 or 51, and no other number.
  pub numbers : Among (0 ∷ 19 ∷ 20 ∷ 22 ∷ 48 ∷ 49 ∷ 50 ∷ 51 ∷ []) (read_text_of text table).result.number
  numbers = by (way text table)
    where
      late : {n : ℕ} → Among (48 ∷ 49 ∷ 50 ∷ 51 ∷ []) n → Among (0 ∷ 19 ∷ 20 ∷ 22 ∷ 48 ∷ 49 ∷ 50 ∷ 51 ∷ []) n
      late m = Memᴰ.tail (Memᴰ.tail (Memᴰ.tail (Memᴰ.tail m)))

      by : Way text table → Among (0 ∷ 19 ∷ 20 ∷ 22 ∷ 48 ∷ 49 ∷ 50 ∷ 51 ∷ []) (read_text_of text table).result.number
      by (long h e) = late (Memᴰ.head (number-of _ _ e))
      by (strange_byte p h q e) = late (Memᴰ.tail (Memᴰ.head (number-of _ _ e)))
      by (wrong_token p h q e) = late (Memᴰ.tail (Memᴰ.tail (Memᴰ.head (number-of _ _ e))))
      by (at_end h q e) = late (Memᴰ.tail (Memᴰ.tail (Memᴰ.head (number-of _ _ e))))
      by (no_room w h q r e) = late (Memᴰ.tail (Memᴰ.tail (Memᴰ.tail (Memᴰ.head (number-of _ _ e)))))
      by (bad_table w h q r b e) =
          Memᴰ.cast (number-of _ _ e)
          (Memᴰ.append_left (48 ∷ 49 ∷ 50 ∷ 51 ∷ []) (only-19-20-22 w (parsed-text text w h q).spells.shaped))
      by (good_table w h q r b e) = Memᴰ.head (number-of _ _ e)
