-- Bytes laid one after the other are the pieces of the definition.
use Prim.Native.Nat.{ℕ, zero, suc, ◌+◌, ◌*◌, ◌-◌, ◌/◌, ◌%◌, ◌≤◌, ◌<◌}
use mathlib.Core.Path.{◌≡◌, refl, sym, ◌∙◌}
use mathlib.Core.List.{List, [], ◌∷◌}
use native.Mathlib.Omega.{arith}
use lib.ListN.{set, length, length-set}
use lib.Seq.{set_out}
use Rattle.wire.specs.Wire.{bytes4}
use Rattle.assembly.specs.Pieces.{piece, lay, lay_all}
use Rattle.assembly.specs.Moves.{removed_from}

-- past the end nothing is laid
pub put_out : (s : List ℕ) (p b : ℕ) → length s ≤ p → s ≡ set s p b
put_out s p b h = sym (set_out s p b h)

-- a tag and the four bytes of a value
pub five_laid : (p tag value : ℕ) (s : List ℕ) {s1 s2 s3 s4 s5 : List ℕ} → s1 ≡ set s p tag → s2 ≡ set s1 (p + 1) (value % 256)
    → s3 ≡ set s2 (p + 2) (value / 256 % 256) → s4 ≡ set s3 (p + 3) (value / 65536 % 256) → s5 ≡ set s4 (p + 4) (value / 16777216 % 256)
    → s5 ≡ lay p (tag ∷ bytes4 value) s
unfolding lay bytes4
five_laid p tag value s a b c d e =
    let k1 : p + 1 ≡ suc p = omega arith in
    let k2 : p + 2 ≡ suc (suc p) = omega arith in
    let k3 : p + 3 ≡ suc (suc (suc p)) = omega arith in
    let k4 : p + 4 ≡ suc (suc (suc (suc p))) = omega arith in
    rw (e, d, c, b, a, k1, k2, k3, k4)

pub two_laid : {s1 s2 : List ℕ} (s : List ℕ) (p a b : ℕ) → s1 ≡ set s p a → s2 ≡ set s1 (p + 1) b → s2 ≡ lay_all (piece p (a ∷ b ∷ []) ∷ []) s
unfolding lay_all lay
two_laid s p a b e d = let k : p + 1 ≡ suc p = omega arith in rw (d, e, k)

pub three_laid : {s1 s2 s3 : List ℕ} (s : List ℕ) (p a b c : ℕ) → s1 ≡ set s p a → s2 ≡ set s1 (p + 1) b → s3 ≡ set s2 (p + 2) c
    → s3 ≡ lay_all (piece p (a ∷ b ∷ c ∷ []) ∷ []) s
unfolding lay_all lay
three_laid s p a b c e d f =
    let k : p + 1 ≡ suc p = omega arith in
    let j : p + 2 ≡ suc (suc p) = omega arith in
    rw (f, d, e, j, k)

-- ---- the kinds of heads

-- n heads from p on are still to be laid into s
pub record Laid (start n p left : ℕ) (before s : List ℕ) : Type 0 where
  pub same : lay_all (removed_from start n) before ≡ lay_all (removed_from p left) s
  pub near : p + 22 * left ≤ start + 22 * n
  pub long : length s ≡ length before

pub laid-begins : (start n m : ℕ) (s : List ℕ) → n ≡ m → Laid start m start n s s
laid-begins start n m s e = rw e (record { same = refl; near = omega arith; long = refl })

module _ {start n p : ℕ} {before s : List ℕ} where
  more : (left : ℕ) {s' : List ℕ} → Laid start n p left before s → 0 < left → s' ≡ set s p 4 → Laid start n (p + 22) (left - 1) before s'
  unfolding removed_from lay_all lay
  more zero l h e = absurd (omega arith)
  more (suc left) l h e =
      let k : suc left - 1 ≡ left = omega arith in
      rw (k, e) (record { same = l.same; near = omega (arith, l.near); long = length-set s p 4 ∙ l.long })

  pub laid-more : {left : ℕ} {s' : List ℕ} → Laid start n p left before s → 0 < left → s' ≡ set s p 4 → Laid start n (p + 22) (left - 1) before s'
  laid-more {left} l h e = more left l h e

  done : (left : ℕ) → Laid start n p left before s → left ≤ 0 → s ≡ lay_all (removed_from start n) before
  unfolding removed_from lay_all
  done zero l h = sym l.same
  done (suc left) l h = absurd (omega arith)

  pub laid-done : {left : ℕ} → Laid start n p left before s → left ≤ 0 → s ≡ lay_all (removed_from start n) before
  laid-done {left} l h = done left l h

pub ruleset laid = (put_out, two_laid, three_laid, five_laid)
