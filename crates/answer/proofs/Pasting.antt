-- Bytes written into a list from its beginning on: what lies behind them is kept. Bytes that are written behind others are one writing with them.
use Prim.Native.Nat.{ℕ, ◌+◌, ◌≤◌, ◌<◌}
use mathlib.Core.Path.{◌≡◌, refl, sym, ap, ◌∙◌}
use mathlib.Core.List.{List, [], ◌∷◌, ◌++◌, append_assoc}
use native.Mathlib.Omega.{arith}
use native.Mathlib.Numerals.{add-one}
use borrow.Rule.Slice.PartMut.{put_mid}
use lib.ListN.{length, take, drop, set, length-append, length-drop}
use lib.Seq.{take_at, drop-append-add, drop-drop, set_split}
use Rattle.wire.specs.Wire.{bytes4, put_u32}
use Rattle.wire.proofs.Laws.{put-parts}

-- u is s with the n bytes x at its beginning
pub record Begins (s : List ℕ) (n : ℕ) (x u : List ℕ) : Type 0 where
  pub same : u ≡ x ++ drop n s
  pub sized : length x ≡ n
  pub room : n ≤ length s

pub nothing-yet : (s : List ℕ) → Begins s 0 [] s
nothing-yet s = record { same = refl; sized = refl; room = omega arith }

module _ {s : List ℕ} {n : ℕ} {x u : List ℕ} (b : Begins s n x u) where
  pub long : length u ≡ length s
  long = ap length b.same ∙ length-append x (drop n s) ∙ omega (arith, b.sized, b.room, length-drop n s)

  back : (m : ℕ) → drop (n + m) u ≡ drop (n + m) s
  back m =
      ap (drop (n + m)) b.same ∙ ap (λ (k : ℕ). drop (k + m) (x ++ drop n s)) (sym b.sized)
      ∙ drop-append-add x (drop n s) m ∙ drop-drop m n s

  module _ (m : ℕ) (y : List ℕ) (l : length y ≡ m) (h : n + m ≤ length s) where
    more : {v : List ℕ} → v ≡ take n u ++ (y ++ drop (n + m) u) → Begins s (n + m) (x ++ y) v
    more e = record {
      same = e ∙ ap (λ (w : List ℕ). take n w ++ (y ++ drop (n + m) u)) b.same
          ∙ rw (take_at x (drop n s) n b.sized, back m, append_assoc x y (drop (n + m) s)) refl;
      sized = length-append x y ∙ omega (arith, b.sized, l);
      room = h;
    }

    pub more-part : {v : List ℕ} → v ≡ put_mid n m u y → Begins s (n + m) (x ++ y) v
    more-part e = more (e ∙ ap (λ (w : List ℕ). take n u ++ (y ++ w)) (drop-drop m n u))

  pub more-byte : (c : ℕ) → n < length s → {v : List ℕ} → v ≡ set u n c → Begins s (n + 1) (x ++ c ∷ []) v
  more-byte c h e = more 1 (c ∷ []) refl (omega arith) (e ∙ rw add-one (set_split u n c (omega (arith, long))))

  pub more-word : (w : ℕ) → n + 4 ≤ length s → {v : List ℕ} → v ≡ put_u32 u n w → Begins s (n + 4) (x ++ bytes4 w) v
  unfolding bytes4
  more-word w h e = more 4 (bytes4 w) refl h (e ∙ put-parts u n w (omega (arith, long)))
