-- The seven ways in which reading a text can end, each with what it is that led there. The theorems on the numbers are read off these.
use Prim.Native.Nat.{ℕ, zero, suc, ◌≤◌, ◌<◌}
use native.Mathlib.Omega.{arith}
use mathlib.Core.Path.{◌≡◌, refl, ◌∙◌}
use mathlib.Core.Bool.{Bool, true, false}
use mathlib.Core.List.{List}
use lib.Dec.{ltb}
use lib.ListN.{length}
use borrow.Author.Tests.{ltb-true, ltb-false, lt-ltb, le-ltb, ne_eqb, eq-eqb}
use Rattle.model.specs.Calls.{check_of}
use Rattle.model.specs.Results.{refusal}
use Rattle.grammar.specs.Tree.{TableTree}
use Rattle.grammar.specs.Encode.{encode}
use Rattle.text.specs.Tokens.{lexed}
use Rattle.parsing.specs.Parsed.{Parsed, tree, strange, wrong, unfinished, parsed}
use Rattle.text_reader.specs.ReadText.{read_refused, read_written, read_checked, read_room, read_parsed, read_text_of}

module _ (text table : List ℕ) where
  -- ---- the tests, one by one

  pub read-long : 65536 < length text → read_text_of text table ≡ read_refused text table (refusal 48 0)
  unfolding read_text_of
  read-long h = rw (lt-ltb 65536 (length text) h)

  pub read-short : (o : Parsed) → length text ≤ 65536 → parsed (lexed text) ≡ o → read_text_of text table ≡ read_parsed text table o
  unfolding read_text_of
  read-short o h e = rw (le-ltb 65536 (length text) h, e)

  room-short : (t : List ℕ) → length table < length t → read_room text table t ≡ read_refused text table (refusal 51 0)
  unfolding read_room
  room-short t h = rw (lt-ltb (length table) (length t) h)

  room-enough : (t : List ℕ) → length t ≤ length table → read_room text table t ≡ read_checked text table t
  unfolding read_room
  room-enough t h = rw (le-ltb (length table) (length t) h)

  checked-good : (t : List ℕ) → (check_of t).number ≡ 0 → read_checked text table t ≡ read_written text table t
  unfolding read_checked
  checked-good t e = rw (eq-eqb (check_of t).number 0 e)

  checked-bad : (t : List ℕ) → 1 ≤ (check_of t).number → read_checked text table t ≡ read_refused text table (check_of t)
  unfolding read_checked
  checked-bad t h = rw (ne_eqb (check_of t).number 0 (λ (e : (check_of t).number ≡ 0). omega arith))

  -- ---- the ways

  module _ (short : length text ≤ 65536) where
    pub read-strange : (p : ℕ) → parsed (lexed text) ≡ strange p → read_text_of text table ≡ read_refused text table (refusal 49 p)
    unfolding read_parsed
    read-strange p e = read-short (strange p) short e

    pub read-wrong : (p : ℕ) → parsed (lexed text) ≡ wrong p → read_text_of text table ≡ read_refused text table (refusal 50 p)
    unfolding read_parsed
    read-wrong p e = read-short (wrong p) short e

    pub read-unfinished : parsed (lexed text) ≡ unfinished → read_text_of text table ≡ read_refused text table (refusal 50 (length text))
    unfolding read_parsed
    read-unfinished e = read-short unfinished short e

    module _ (w : TableTree) (e : parsed (lexed text) ≡ tree w) where
      read-tree : read_text_of text table ≡ read_room text table (encode w)
      unfolding read_parsed
      read-tree = read-short (tree w) short e

      pub read-no-room : length table < length (encode w) → read_text_of text table ≡ read_refused text table (refusal 51 0)
      read-no-room h = read-tree ∙ room-short (encode w) h

      pub read-bad : length (encode w) ≤ length table → 1 ≤ (check_of (encode w)).number
          → read_text_of text table ≡ read_refused text table (check_of (encode w))
      read-bad h b = read-tree ∙ room-enough (encode w) h ∙ checked-bad (encode w) b

      pub read-good : length (encode w) ≤ length table → (check_of (encode w)).number ≡ 0 → read_text_of text table ≡ read_written text table (encode w)
      read-good h b = read-tree ∙ room-enough (encode w) h ∙ checked-good (encode w) b

  -- There is no eighth.
  pub data Way : Type 0 where
    long : 65536 < length text → read_text_of text table ≡ read_refused text table (refusal 48 0) → Way
    strange_byte : (p : ℕ) → length text ≤ 65536 → parsed (lexed text) ≡ strange p → read_text_of text table ≡ read_refused text table (refusal 49 p) → Way
    wrong_token : (p : ℕ) → length text ≤ 65536 → parsed (lexed text) ≡ wrong p → read_text_of text table ≡ read_refused text table (refusal 50 p) → Way
    at_end : length text ≤ 65536 → parsed (lexed text) ≡ unfinished → read_text_of text table ≡ read_refused text table (refusal 50 (length text)) → Way
    no_room : (w : TableTree) → length text ≤ 65536 → parsed (lexed text) ≡ tree w → length table < length (encode w)
        → read_text_of text table ≡ read_refused text table (refusal 51 0) → Way
    bad_table : (w : TableTree) → length text ≤ 65536 → parsed (lexed text) ≡ tree w → length (encode w) ≤ length table → 1 ≤ (check_of (encode w)).number
        → read_text_of text table ≡ read_refused text table (check_of (encode w)) → Way
    good_table : (w : TableTree) → length text ≤ 65536 → parsed (lexed text) ≡ tree w → length (encode w) ≤ length table → (check_of (encode w)).number ≡ 0
        → read_text_of text table ≡ read_written text table (encode w) → Way

  pub way : Way
  way = by-length (ltb 65536 (length text)) refl
    where
      by-check : length text ≤ 65536 → (w : TableTree) → parsed (lexed text) ≡ tree w → length (encode w) ≤ length table → (n : ℕ)
          → (check_of (encode w)).number ≡ n → Way
      by-check h w e r zero q = good_table w h e r q (read-good h w e r q)
      by-check h w e r (suc n) q = bad_table w h e r (omega arith) (read-bad h w e r (omega arith))

      by-room : length text ≤ 65536 → (w : TableTree) → parsed (lexed text) ≡ tree w → (b : Bool) → ltb (length table) (length (encode w)) ≡ b → Way
      by-room h w e true q = let l : length table < length (encode w) = omega (arith, ltb-true) in no_room w h e l (read-no-room h w e l)
      by-room h w e false q = by-check h w e (omega (arith, ltb-false)) (check_of (encode w)).number refl

      by-parsed : length text ≤ 65536 → (o : Parsed) → parsed (lexed text) ≡ o → Way
      by-parsed h (tree w) e = by-room h w e (ltb (length table) (length (encode w))) refl
      by-parsed h (strange p) e = strange_byte p h e (read-strange h p e)
      by-parsed h (wrong p) e = wrong_token p h e (read-wrong h p e)
      by-parsed h unfinished e = at_end h e (read-unfinished h e)

      by-length : (b : Bool) → ltb 65536 (length text) ≡ b → Way
      by-length true q = let l : 65536 < length text = omega (arith, ltb-true) in long l (read-long l)
      by-length false q = by-parsed (omega (arith, ltb-false)) (parsed (lexed text)) refl
