-- The digits of a number: there are at most ten, and the last one is found first.
use Prim.Native.Nat.{ℕ, zero, suc, ◌+◌, ◌-◌, ◌*◌, ◌/◌, ◌%◌, ◌^◌, ◌≤◌, ◌<◌}
use mathlib.Core.Path.{◌≡◌, sym, ◌∙◌}
use mathlib.Core.List.{List, [], ◌∷◌}
use native.Mathlib.Omega.{arith}
use native.Mathlib.Nat.{pow-succ'}
use lib.ListN.{length, take, drop, set, length-drop, drop_of_length-le}
use borrow.Author.Tests.{lt-ltb, le-ltb}
use Rattle.std.proofs.lemmas.List.{length-set, drop-set, take_all}
use Rattle.text.specs.Printed.{decimal_before, decimal}
use Rattle.text_writing.proofs.Writes.{less-or-not}

-- by whether n has one digit alone
module _ (d n : ℕ) (later : List ℕ) where
  before-one : n < 10 → decimal_before (suc d) n later ≡ (48 + n) ∷ later
  unfolding decimal_before
  before-one h = rw (lt-ltb n 10 h)

  before-more : 10 ≤ n → decimal_before (suc d) n later ≡ decimal_before d (n / 10) ((48 + n % 10) ∷ later)
  unfolding decimal_before
  before-more h = rw (le-ltb n 10 h)

before-few : (d n : ℕ) (later : List ℕ) → length (decimal_before d n later) ≤ d + length later
unfolding decimal_before
before-few zero n later = omega arith
before-few (suc d) n later =
    less-or-not (length (decimal_before (suc d) n later) ≤ suc d + length later) n 10
    (λ h. rw (before-one d n later h) (omega arith))
    (λ h. rw (before-more d n later h) (omega (arith, before-few d (n / 10) ((48 + n % 10) ∷ later))))

pub decimal-few : (n : ℕ) → length (decimal n) ≤ 10
unfolding decimal
decimal-few n = omega (arith, before-few 10 n [])

-- ---- the digits, the last one first: `digits` holds those behind `first`, and before them belong those of `rest`

pub record Digits (n : ℕ) (digits : List ℕ) (first rest : ℕ) : Type 0 where
  pub long : length digits ≡ 10
  pub inside : first ≤ 9
  pub below : rest < 10 ^ suc first
  pub same : decimal_before (suc first) rest (drop (first + 1) digits) ≡ decimal n

pub digits-none : (n : ℕ) (digits : List ℕ) → length digits ≡ 10 → n < 4294967296 → Digits n digits 9 n
unfolding decimal
digits-none n digits e h =
    record { long = e; inside = omega arith; below = omega arith; same = rw (drop_of_length-le digits {i = 10} (omega arith)) }

module _ {n : ℕ} {digits : List ℕ} {first rest : ℕ} (c : Digits n digits first rest) where
  more-digits : 10 ≤ rest → 1 ≤ first
  more-digits h = go first c.below
    where
      go : (k : ℕ) → rest < 10 ^ suc k → 1 ≤ k
      go zero l = absurd (omega arith)
      go (suc k) l = omega arith

  pub digits-more : 10 ≤ rest → Digits n (set digits first (48 + rest % 10)) (first - 1) (rest / 10)
  digits-more h =
      let some : 1 ≤ first = more-digits h in
      let e : suc (first - 1) ≡ first = omega arith in
      let f : first - 1 + 1 ≡ first = omega arith in
      let power : 10 ^ suc first ≡ 10 * 10 ^ first = pow-succ' 10 first in
      record {
        long = length-set digits first (48 + rest % 10) ∙ c.long;
        inside = omega (arith, c.inside);
        below = rw e (omega (arith, c.below, power));
        same =
            rw (e, f, drop-set digits first (48 + rest % 10) (omega (arith, c.long, c.inside)))
            (sym (before-more first rest (drop (first + 1) digits) h) ∙ c.same);
      }

  pub digits-all : rest < 10 → take (10 - first) (drop first (set digits first (48 + rest))) ≡ decimal n
  digits-all h =
      let stored = set digits first (48 + rest) in
      take_all (10 - first) (drop first stored) (omega (arith, length-drop first stored, length-set digits first (48 + rest), c.long))
      ∙ drop-set digits first (48 + rest) (omega (arith, c.long, c.inside))
      ∙ sym (before-one first rest (drop (first + 1) digits) h)
      ∙ c.same
