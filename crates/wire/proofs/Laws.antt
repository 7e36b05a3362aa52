-- Laws of words in bytes, for the crates that cite them: a word that was written is read, what lies outside is kept, bits and
-- signed numbers go there and back, and how large each can be. Assumes nothing.
use Rattle.std.specs.Prelude.{◌≡◌, refl, ◌≢◌, ◌⊎◌, List, [], ◌∷◌, ◌++◌, ℕ, zero, suc, ◌+◌, ◌-◌, ◌/◌, ◌%◌, ◌≤◌, ◌<◌, ℤ, pos, negsuc}
use Rattle.std.specs.Prelude.{Bool, true, false, ltb, length, get_or, set, take, drop}
use Rattle.std.proofs.Common.{sym, ap, subst, to_z, of_z, to_z-of_z, ◌∙◌, inl}
use Rattle.std.proofs.Common.{inr, ⊎_elim, append_assoc, add_assoc, mod-eq_of_lt, add-one, arith, length-set, get_or-set_same}
use Rattle.std.proofs.Common.{get_or-set_other, lt-length-set, get_or-drop, get_or-append-add, Fits, SFits, lt-ltb, le-ltb, ltb-true, ltb-false}
use Rattle.std.proofs.Math.Facts.{of_z-to_z, sfits_to_z, Fits-of_z}
use Rattle.std.proofs.Math.Nat.{div-div-eq-div-mul}
use Rattle.std.proofs.Math.Numerals.{add-two, add-three}
use Rattle.std.proofs.Math.ListN.{get_or-eq_default}
use Rattle.std.proofs.lemmas.List.Edits.{sets-eq}
use Rattle.std.proofs.Math.Seq.{get_or-append_seam}
use Rattle.std.specs.Int.{w8, w32}
use Rattle.wire.specs.Wire.{byte_at, joined, u32_at, i32_at, signed_of, bits_of, bytes4, put_u32}
pub use Rattle.wire.specs.Laws.{Bytes}

-- ---- two's complement

pub signed-low : (n : ℕ) → n < 2147483648 → signed_of n ≡ pos n
unfolding signed_of
signed-low n p = simp (lt-ltb n 2147483648 p)

pub signed-high : (n : ℕ) → 2147483648 ≤ n → n < 4294967296 → signed_of n ≡ negsuc (4294967296 - suc n)
unfolding signed_of
signed-high n p q = simp (le-ltb n 2147483648 p, lt-ltb n 4294967296 q)

pub bits-below : (v : ℤ) → SFits w32 v → bits_of v < 4294967296
unfolding bits_of
bits-below (pos n) f = omega (arith, f.sfits)
bits-below (negsuc n) f = omega arith

-- the library's conversions say the same
signed-are : (n : ℕ) → n < 4294967296 → to_z w32 n ≡ signed_of n
unfolding signed_of
signed-are n q = simp (lt-ltb n 4294967296 q)

pub bits-are : (v : ℤ) → of_z w32 v ≡ bits_of v
unfolding bits_of
bits-are (pos n) = refl
bits-are (negsuc n) = refl

-- what is read of 32 bits fits 32 bits
pub signed-fits : (n : ℕ) → n < 4294967296 → SFits w32 (signed_of n)
signed-fits n q = subst (SFits w32) (signed-are n q) (sfits_to_z (record { fits = q }))

-- there and back
pub signed-bits : (v : ℤ) → SFits w32 v → signed_of (bits_of v) ≡ v
signed-bits v f = sym (ap signed_of (bits-are v)) ∙ sym (signed-are (of_z w32 v) (Fits-of_z f).fits) ∙ to_z-of_z f

pub bits-signed : (n : ℕ) → n < 4294967296 → bits_of (signed_of n) ≡ n
bits-signed n q = sym (bits-are (signed_of n)) ∙ ap (of_z w32) (sym (signed-are n q)) ∙ of_z-to_z {w = w32} (record { fits = q })

-- by the half that a number is in
half-test : (t : Bool) (n : ℕ) → ltb n 2147483648 ≡ t → (n < 2147483648) ⊎ (2147483648 ≤ n)
half-test true n e = inl (ltb-true n 2147483648 e)
half-test false n e = inr (ltb-false n 2147483648 e)

half : (n : ℕ) → (n < 2147483648) ⊎ (2147483648 ≤ n)
half n = half-test (ltb n 2147483648) n refl

fits-low : (n : ℕ) → n < 2147483648 → SFits w32 (signed_of n)
fits-low n p = signed-fits n (omega arith)

fits-high : (n : ℕ) → 2147483648 ≤ n → n < 4294967296 → SFits w32 (signed_of n)
fits-high n p q = signed-fits n q

back-low : (n : ℕ) → n < 2147483648 → bits_of (signed_of n) ≡ n
back-low n p = bits-signed n (omega arith)

back-high : (n : ℕ) → 2147483648 ≤ n → n < 4294967296 → bits_of (signed_of n) ≡ n
back-high n p q = bits-signed n q

-- ---- words

-- past the end stands 0
pub past-end : (s : List ℕ) (at : ℕ) → length s ≤ at → 0 ≡ byte_at s at
past-end s at h = sym (get_or-eq_default s 0 h)

-- as the rule of a slice of bytes says it
pub slice-bytes : (s : List ℕ) → ((i : ℕ) → Fits w8 (byte_at s i)) → Bytes s
slice-bytes s f = record { below = λ i. (f i).fits }

pub u32-below : (s : List ℕ) (at : ℕ) → Bytes s → u32_at s at < 4294967296
unfolding u32_at
u32-below s at b = omega (arith, b.below at, b.below (at + 1), b.below (at + 2), b.below (at + 3))

pub i32-fits : (s : List ℕ) (at : ℕ) → Bytes s → SFits w32 (i32_at s at)
unfolding i32_at
i32-fits s at b = signed-fits (u32_at s at) (u32-below s at b)

joined-bytes : (n : ℕ) → n < 4294967296 → joined (n % 256) (n / 256 % 256) (n / 65536 % 256) (n / 16777216 % 256) ≡ n
joined-bytes n h =
    let top : n / 16777216 < 256 = omega arith in
    omega (arith, div-div-eq-div-mul n 256 256, div-div-eq-div-mul n 65536 256, mod-eq_of_lt top)

pub length-put : (s : List ℕ) (at n : ℕ) → length (put_u32 s at n) ≡ length s
unfolding put_u32
length-put s at n = simp length-set

-- what was written is read
pub read-put : (s : List ℕ) (at n : ℕ) → at + 4 ≤ length s → n < 4294967296 → u32_at (put_u32 s at n) at ≡ n
unfolding u32_at put_u32
read-put s at n h q =
    let a0 : at < length s = omega arith in
    let a1 : at + 1 < length s = omega arith in
    let a2 : at + 2 < length s = omega arith in
    let a3 : at + 3 < length s = omega arith in
    let d01 : at ≢ at + 1 = λ (e : at ≡ at + 1). omega arith in
    let d02 : at ≢ at + 2 = λ (e : at ≡ at + 2). omega arith in
    let d03 : at ≢ at + 3 = λ (e : at ≡ at + 3). omega arith in
    let d12 : at + 1 ≢ at + 2 = λ (e : at + 1 ≡ at + 2). omega arith in
    let d13 : at + 1 ≢ at + 3 = λ (e : at + 1 ≡ at + 3). omega arith in
    let d23 : at + 2 ≢ at + 3 = λ (e : at + 2 ≡ at + 3). omega arith in
    simp (get_or-set_same, get_or-set_other, lt-length-set) (joined-bytes n q)

pub read-put-signed : (s : List ℕ) (at : ℕ) (v : ℤ) → at + 4 ≤ length s → SFits w32 v → i32_at (put_u32 s at (bits_of v)) at ≡ v
unfolding i32_at
read-put-signed s at v h f = ap signed_of (read-put s at (bits_of v) h (bits-below v f)) ∙ signed-bits v f

-- what lies outside is kept
apart : (at j k : ℕ) → at ≤ k → k < at + 4 → (j < at) ⊎ (at + 4 ≤ j) → j ≢ k
apart at j k p q o = λ (e : j ≡ k). ⊎_elim (λ (l : j < at). omega arith) (λ (l : at + 4 ≤ j). omega arith) o

pub put-other : (s : List ℕ) (at n j : ℕ) → (j < at) ⊎ (at + 4 ≤ j) → byte_at (put_u32 s at n) j ≡ byte_at s j
unfolding put_u32
put-other s at n j o =
    let d0 : j ≢ at = apart at j _ (omega arith) (omega arith) o in
    let d1 : j ≢ at + 1 = apart at j _ (omega arith) (omega arith) o in
    let d2 : j ≢ at + 2 = apart at j _ (omega arith) (omega arith) o in
    let d3 : j ≢ at + 3 = apart at j _ (omega arith) (omega arith) o in
    simp get_or-set_other

-- the same by parts: what stands before, the four bytes, and what stands after
pub put-parts : (s : List ℕ) (at n : ℕ) → at + 4 ≤ length s → put_u32 s at n ≡ take at s ++ (bytes4 n ++ drop (at + 4) s)
unfolding put_u32 bytes4
put-parts s at n h = simp (add-one, add-two, add-three) (sets-eq (bytes4 n) s at h ∙ append_assoc (take at s) (bytes4 n) (drop (at + 4) s))

-- bytes stay bytes
set-below : (s : List ℕ) (i v j : ℕ) → ((k : ℕ) → get_or s k 0 < 256) → v < 256 → get_or (set s i v) j 0 < 256
set-below [] i v j b h = b j
set-below (x ∷ xs) zero v zero b h = h
set-below (x ∷ xs) zero v (suc j) b h = b (suc j)
set-below (x ∷ xs) (suc i) v zero b h = b 0
set-below (x ∷ xs) (suc i) v (suc j) b h = set-below xs i v j (λ k. b (suc k)) h

set-bytes : {s : List ℕ} (i v : ℕ) → v < 256 → Bytes s → Bytes (set s i v)
set-bytes {s} i v h b = record { below = λ j. set-below s i v j b.below h }

pub put-bytes : (s : List ℕ) (at n : ℕ) → Bytes s → Bytes (put_u32 s at n)
unfolding put_u32
put-bytes s at n b =
    set-bytes (at + 3) _ (omega arith)
    (set-bytes (at + 2) _ (omega arith) (set-bytes (at + 1) _ (omega arith) (set-bytes at _ (omega arith) b)))

-- a word that lies apart is kept
pub read-other : (s : List ℕ) (at n k : ℕ) → (k + 4 ≤ at) ⊎ (at + 4 ≤ k) → u32_at (put_u32 s at n) k ≡ u32_at s k
unfolding u32_at
read-other s at n k o =
    let clear : (j : ℕ) → k ≤ j → j < k + 4 → (j < at) ⊎ (at + 4 ≤ j) =
    λ j p q. ⊎_elim (λ (l : k + 4 ≤ at). inl (omega arith)) (λ (l : at + 4 ≤ k). inr (omega arith)) o in
    simp (
      put-other s at n k (clear k (omega arith) (omega arith)),
      put-other s at n (k + 1) (clear (k + 1) (omega arith) (omega arith)),
      put-other s at n (k + 2) (clear (k + 2) (omega arith) (omega arith)),
      put-other s at n (k + 3) (clear (k + 3) (omega arith) (omega arith)),
    )

-- the word of a part is the word of the whole, further on
pub read-drop : (s : List ℕ) (k at : ℕ) → u32_at (drop k s) at ≡ u32_at s (k + at)
unfolding u32_at
read-drop s k at = simp (get_or-drop, ← add_assoc)

-- a word that stands between two parts
pub read-parts : (p q : List ℕ) (n : ℕ) → n < 4294967296 → u32_at (p ++ (bytes4 n ++ q)) (length p) ≡ n
unfolding u32_at bytes4
read-parts p q n h =
    simp (get_or-append_seam, get_or-append-add) (joined-bytes n h)
