-- Bytes that stand in a table at an offset, split where the bytes are joined, and words among them. No list is ever put together again: each law
-- goes by the index.
use Prim.Native.Nat.{ℕ, zero, suc, ◌+◌, ◌*◌, ◌/◌, ◌%◌, ◌<◌}
use mathlib.Core.Path.{◌≡◌, refl, sym, ◌∙◌, subst}
use mathlib.Core.List.{List, [], ◌∷◌, ◌++◌}
use native.Mathlib.Omega.{arith}
use native.Mathlib.Nat.{div-div-eq-div-mul, mod-eq_of_lt}
use lib.ListN.{length, get_or, replicate, length-append, get_or-append}
use lib.Seq.{get_or-append-add, ext_get_or}
use Rattle.wire.specs.Wire.{u32_at, bytes4, joined}
use Rattle.model.proofs.Ranges.{AreBytes}
use Rattle.model.proofs.Lists.{every-get_d}

-- bs stand in t at p; behind the end of t stand zeros
pub record Same (t : List ℕ) (p : ℕ) (bs : List ℕ) : Type 0 where
  pub each : (i : ℕ) → i < length bs → get_or t (p + i) 0 ≡ get_or bs i 0

module _ (t : List ℕ) where
  pub same-first : (p b : ℕ) (bs : List ℕ) → Same t p (b ∷ bs) → get_or t p 0 ≡ b
  same-first p b bs s = let e : p + 0 ≡ p = omega arith in rw e at (s.each 0 (omega arith))

  pub same-rest : (p b : ℕ) (bs : List ℕ) → Same t p (b ∷ bs) → Same t (p + 1) bs
  same-rest p b bs s = record { each = λ i h. let e : p + suc i ≡ p + 1 + i = omega arith in rw e at (s.each (suc i) (omega arith)) }

  pub same-none : (p : ℕ) → Same t p []
  same-none p = record { each = λ i h. absurd (omega arith) }

  pub same-more : (p b : ℕ) (bs : List ℕ) → get_or t p 0 ≡ b → Same t (p + 1) bs → Same t p (b ∷ bs)
  same-more p b bs e s = record { each = go }
    where
      go : (i : ℕ) → i < suc (length bs) → get_or t (p + i) 0 ≡ get_or (b ∷ bs) i 0
      go zero h = let d : p + 0 ≡ p = omega arith in rw d e
      go (suc i) h = let d : p + suc i ≡ p + 1 + i = omega arith in rw d (s.each i (omega arith))

  pub same-left : (p : ℕ) (xs ys : List ℕ) → Same t p (xs ++ ys) → Same t p xs
  same-left p xs ys s = record { each = λ i h. s.each i (rw (length-append xs ys) (omega arith)) ∙ get_or-append xs ys 0 i h }

  pub same-right : (p : ℕ) (xs ys : List ℕ) → Same t p (xs ++ ys) → Same t (p + length xs) ys
  same-right p xs ys s = record {
    each = λ i h.
        let e : p + length xs + i ≡ p + (length xs + i) = omega arith in
        rw e (s.each (length xs + i) (rw (length-append xs ys) (omega arith)) ∙ get_or-append-add xs ys i 0);
  }

  pub same-both : (p : ℕ) (xs ys : List ℕ) → Same t p xs → Same t (p + length xs) ys → Same t p (xs ++ ys)
  same-both p [] ys a b = let e : p + 0 ≡ p = omega arith in rw e at b
  same-both p (x ∷ xs) ys a b =
      let e : p + suc (length xs) ≡ p + 1 + length xs = omega arith in
      same-more p x (xs ++ ys) (same-first p x xs a) (same-both (p + 1) xs ys (same-rest p x xs a) (rw e at b))

  -- at an offset that is said in another way
  pub same-at : (p q : ℕ) (bs : List ℕ) → p ≡ q → Same t p bs → Same t q bs
  same-at p q bs e s = subst (λ (n : ℕ). Same t n bs) e s

-- a list stands in itself
pub same-self : (t : List ℕ) → Same t 0 t
same-self t = record { each = λ i h. let e : 0 + i ≡ i = omega arith in rw e }

-- and two of one length that stand in one another are equal
pub same-whole : (t bs : List ℕ) → length bs ≡ length t → Same t 0 bs → bs ≡ t
same-whole t bs e s = ext_get_or 0 bs t e (λ i h. let d : 0 + i ≡ i = omega arith in sym (rw d at (s.each i h)))

-- ---- words

pub word-decodes : (t : List ℕ) (p n : ℕ) → n < 4294967296 → Same t p (bytes4 n) → u32_at t p ≡ n
unfolding u32_at bytes4
word-decodes t p n h s =
    let z : p + 0 ≡ p = omega arith in
    let a : get_or t p 0 ≡ n % 256 = rw z at (s.each 0 (omega arith)) in
    let top : n / 16777216 < 256 = omega arith in
    rw (a, s.each 1 (omega arith), s.each 2 (omega arith), s.each 3 (omega arith))
    (omega (arith, div-div-eq-div-mul n 256 256, div-div-eq-div-mul n 65536 256, mod-eq_of_lt top))

-- the bytes of a number are its own
low : (a b : ℕ) → a < 256 → (a + 256 * b) % 256 ≡ a
low a b h = omega arith

high : (a b : ℕ) → a < 256 → (a + 256 * b) / 256 ≡ b
high a b h = omega arith

split : (n a b c d : ℕ) → a < 256 → b < 256 → c < 256 → d < 256 → joined a b c d ≡ n
    → (n % 256 ≡ a) × (n / 256 % 256 ≡ b) × (n / 65536 % 256 ≡ c) × (n / 16777216 % 256 ≡ d)
split n a b c d ha hb hc hd e = (
  omega arith,
  omega arith,
  omega arith,
  omega arith,
)

four : (t : List ℕ) (p a b c d : ℕ) → get_or t p 0 ≡ a → get_or t (p + 1) 0 ≡ b → get_or t (p + 2) 0 ≡ c → get_or t (p + 3) 0 ≡ d
    → Same t p (a ∷ b ∷ c ∷ d ∷ [])
four t p a b c d ea eb ec ed = record { each = go }
  where
    go : (i : ℕ) → i < 4 → get_or t (p + i) 0 ≡ get_or (a ∷ b ∷ c ∷ d ∷ []) i 0
    go zero h = let z : p + 0 ≡ p = omega arith in rw z ea
    go (suc zero) h = eb
    go (suc (suc zero)) h = ec
    go (suc (suc (suc zero))) h = ed
    go (suc (suc (suc (suc i)))) h = absurd (omega arith)

pub word-encodes : (t : List ℕ) → AreBytes t → (p n : ℕ) → u32_at t p ≡ n → Same t p (bytes4 n)
unfolding u32_at bytes4
word-encodes t u p n e =
    let q = split n (get_or t p 0) (get_or t (p + 1) 0) (get_or t (p + 2) 0) (get_or t (p + 3) 0) (at p) (at (p + 1)) (at (p + 2)) (at (p + 3)) e in
    four t p (n % 256) (n / 256 % 256) (n / 65536 % 256) (n / 16777216 % 256) (sym q.0) (sym q.1) (sym q.2) (sym q.3)
  where
    at : (i : ℕ) → get_or t i 0 < 256
    at i = every-get_d (λ (b : ℕ). b < 256) t i 0 u (omega arith)

-- four bytes that come to zero are zero
pub zeros-encode : (t : List ℕ) (p : ℕ) → u32_at t p ≡ 0 → Same t p (replicate 4 0)
unfolding u32_at
zeros-encode t p e = four t p 0 0 0 0 (omega arith) (omega arith) (omega arith) (omega arith)

pub zeros-decode : (t : List ℕ) (p : ℕ) → Same t p (replicate 4 0) → u32_at t p ≡ 0
unfolding bytes4
zeros-decode t p s = word-decodes t p 0 (omega arith) s

pub word-long : (n : ℕ) → length (bytes4 n) ≡ 4
unfolding bytes4
word-long n = refl
