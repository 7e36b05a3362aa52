-- Places of one size, of which the first are used: what is shared by the slots of a head, the expressions of a body fact and the arguments of a goal
-- fact. Each law goes by the number of places.
use Prim.Native.Nat.{ℕ, zero, suc, ◌+◌, ◌*◌, ◌≤◌}
use mathlib.Core.Path.{◌≡◌, refl, ap, ◌∙◌}
use mathlib.Core.Bool.{Bool, true, false, ◌||◌}
use mathlib.Core.List.{List, [], ◌∷◌}
use native.Mathlib.Omega.{arith}
use native.Mathlib.Nat.{mul-suc}
use lib.Dec.{ltb}
use lib.ListN.{length, get_or, drop, replicate, length-append, length-replicate}
use borrow.Author.Tests.{lt-ltb}
use Rattle.model.proofs.Every.{every}
use Rattle.model.proofs.Lists.{or-false-left, or-false-right, or-both}
use Rattle.grammar.specs.Encode.{places_bytes}
use Rattle.grammar.specs.Layout.{laid_places, used_of}
use Rattle.grammar.proofs.Same.{Same, same-left, same-right, same-both, same-at, same-none}

-- n places of one size, from p on
abbrev pub rows_at : {B : Type 0} → (ℕ → B) → ℕ → ℕ → ℕ → List B
rows_at at size p zero = []
rows_at at size p (suc n) = at p ∷ rows_at at size (p + size) n

-- ---- against bytes

module _ {A : Type 0} (bytes : A → List ℕ) (size : ℕ) (long : (x : A) → length (bytes x) ≡ size) where
  pub places-long : (n : ℕ) (xs : List A) → length (places_bytes bytes size n xs) ≡ size * n
  unfolding places_bytes
  places-long zero xs = omega arith
  places-long (suc n) [] =
      length-append (replicate size 0) (places_bytes bytes size n [])
      ∙ omega (arith, length-replicate {A = ℕ} size 0, places-long n [], mul-suc size n)
  places-long (suc n) (x ∷ xs) = length-append (bytes x) (places_bytes bytes size n xs) ∙ omega (arith, long x, places-long n xs, mul-suc size n)

module _ {A B : Type 0} (bytes : A → List ℕ) (size : ℕ) (lay : A → B) (blank : B) (t : List ℕ) (at : ℕ → B)
    (long : (x : A) → length (bytes x) ≡ size) where
  pub places-decode : (Good : A → Type 0) → ((p : ℕ) (x : A) → Good x → Same t p (bytes x) → at p ≡ lay x)
      → ((p : ℕ) → Same t p (replicate size 0) → at p ≡ blank)
      → (p n : ℕ) (xs : List A) → every Good xs → Same t p (places_bytes bytes size n xs) → rows_at at size p n ≡ laid_places lay blank n xs
  unfolding places_bytes laid_places
  places-decode Good used unused p zero xs g s = refl
  places-decode Good used unused p (suc n) [] g s =
      let first : at p ≡ blank = unused p (same-left t p (replicate size 0) (places_bytes bytes size n []) s) in
      let later = places-decode Good used unused (p + size) n [] tt
      (same-at t (p + length {A = ℕ} (replicate size 0)) (p + size) (places_bytes bytes size n []) (omega (arith, length-replicate {A = ℕ} size 0))
      (same-right t p (replicate size 0) (places_bytes bytes size n []) s)) in
      rw (first, later)
  places-decode Good used unused p (suc n) (x ∷ xs) g s =
      let first : at p ≡ lay x = used p x g.0 (same-left t p (bytes x) (places_bytes bytes size n xs) s) in
      let later = places-decode Good used unused (p + size) n xs g.1
      (same-at t (p + length (bytes x)) (p + size) (places_bytes bytes size n xs) (omega (arith, long x))
      (same-right t p (bytes x) (places_bytes bytes size n xs) s)) in
      rw (first, later)

  pub places-encode : ((p : ℕ) (x : A) → at p ≡ lay x → Same t p (bytes x)) → ((p : ℕ) → at p ≡ blank → Same t p (replicate size 0))
      → (p n : ℕ) (xs : List A) → rows_at at size p n ≡ laid_places lay blank n xs → Same t p (places_bytes bytes size n xs)
  unfolding places_bytes laid_places
  places-encode used unused p zero xs e = same-none t p
  places-encode used unused p (suc n) [] e =
      same-both t p (replicate size 0) (places_bytes bytes size n []) (unused p (ap (λ (l : List B). get_or l 0 blank) e))
      (same-at t (p + size) (p + length {A = ℕ} (replicate size 0)) (places_bytes bytes size n []) (omega (arith, length-replicate {A = ℕ} size 0))
      (places-encode used unused (p + size) n [] (ap (λ (l : List B). drop 1 l) e)))
  places-encode used unused p (suc n) (x ∷ xs) e =
      same-both t p (bytes x) (places_bytes bytes size n xs) (used p x (ap (λ (l : List B). get_or l 0 blank) e))
      (same-at t (p + size) (p + length (bytes x)) (places_bytes bytes size n xs) (omega (arith, long x))
      (places-encode used unused (p + size) n xs (ap (λ (l : List B). drop 1 l) e)))

-- ---- against the tests of a place

-- "A symbol of arity a uses the first a places.": `bad` says whether a place is bad, by whether it is used
abbrev pub used_bad : {B : Type 0} → (Bool → B → Bool) → ℕ → List B → Bool
used_bad bad a [] = false
used_bad bad zero (b ∷ bs) = bad false b || used_bad bad zero bs
used_bad bad (suc a) (b ∷ bs) = bad true b || used_bad bad a bs

pub or-none : (x : Bool) → (x || false) ≡ x
or-none true = refl
or-none false = refl

pub four-used : {B : Type 0} (bad : Bool → B → Bool) (a : ℕ) (b0 b1 b2 b3 : B)
    → (bad (ltb 0 a) b0 || (bad (ltb 1 a) b1 || (bad (ltb 2 a) b2 || bad (ltb 3 a) b3))) ≡ used_bad bad a (b0 ∷ b1 ∷ b2 ∷ b3 ∷ [])
four-used bad zero b0 b1 b2 b3 = rw (or-none (bad false b3))
four-used bad (suc zero) b0 b1 b2 b3 = rw (or-none (bad false b3))
four-used bad (suc (suc zero)) b0 b1 b2 b3 = rw (or-none (bad false b3))
four-used bad (suc (suc (suc zero))) b0 b1 b2 b3 = rw (or-none (bad false b3))
four-used bad (suc (suc (suc (suc a)))) b0 b1 b2 b3 =
    let n : ℕ = suc (suc (suc (suc a))) in
    rw (or-none (bad true b3), lt-ltb 0 n (omega arith), lt-ltb 1 n (omega arith), lt-ltb 2 n (omega arith), lt-ltb 3 n (omega arith))

-- what a list of places is, where none is bad
pub record PlacesGood {A B : Type 0} (lay : A → B) (blank : B) (Good : A → Type 0) (a : ℕ) (bs : List B) (xs : List A) : Type 0 where
  pub same : bs ≡ laid_places lay blank (length bs) xs
  pub long : length xs ≡ a
  pub good : every Good xs

-- a used place: what is used of it
pub record PlaceUsed {A B : Type 0} (lay : A → B) (Good : A → Type 0) (b : B) (xs : List A) : Type 0 where
  pub item : A
  pub one : xs ≡ item ∷ []
  pub same : b ≡ lay item
  pub good : Good item

nothing : {A : Type 0} (xs : List A) → length xs ≡ 0 → xs ≡ []
nothing [] e = refl
nothing (x ∷ xs) e = absurd (omega arith)

module _ {A B : Type 0} (lay : A → B) (blank : B) (bad : Bool → B → Bool) (Good : A → Type 0) where
  pub laid-used : ((x : A) → Good x → bad true (lay x) ≡ false) → bad false blank ≡ false
      → (n : ℕ) (xs : List A) → length xs ≤ n → every Good xs → used_bad bad (length xs) (laid_places lay blank n xs) ≡ false
  unfolding laid_places
  laid-used used unused zero [] l g = refl
  laid-used used unused zero (x ∷ xs) l g = absurd (omega arith)
  laid-used used unused (suc n) [] l g = or-both (bad false blank) _ unused (laid-used used unused n [] (omega arith) tt)
  laid-used used unused (suc n) (x ∷ xs) l g = or-both (bad true (lay x)) _ (used x g.0) (laid-used used unused n xs (omega arith) g.1)

  pub used-laid : (used : B → List A) (Held : B → Type 0)
      → ((b : B) → bad true b ≡ false → Held b → PlaceUsed lay Good b (used b))
      → ((b : B) → bad false b ≡ false → (b ≡ blank) × (used b ≡ []))
      → (a : ℕ) (bs : List B) → a ≤ length bs → every Held bs → used_bad bad a bs ≡ false → PlacesGood lay blank Good a bs (used_of used bs)
  unfolding laid_places used_of
  used-laid used Held some none a [] l h e = record { same = refl; long = omega arith; good = tt }
  used-laid used Held some none zero (b ∷ bs) l h e =
      let here = none b (or-false-left (bad false b) _ e) in
      let later = used-laid used Held some none zero bs (omega arith) h.1 (or-false-right (bad false b) _ e) in
      let empty : used_of used bs ≡ [] = nothing (used_of used bs) later.long in
      let same : bs ≡ laid_places lay blank (length bs) [] = rw empty at later.same in
      rw (here.1, empty) (record { same = ap (λ (x : B). x ∷ bs) here.0 ∙ ap (λ (l : List B). blank ∷ l) same; long = refl; good = tt })
  used-laid used Held some none (suc a) (b ∷ bs) l h e =
      let here = some b (or-false-left (bad true b) _ e) h.0 in
      let later = used-laid used Held some none a bs (omega arith) h.1 (or-false-right (bad true b) _ e) in
      rw here.one (record {
        same = ap (λ (x : B). x ∷ bs) here.same ∙ ap (λ (l : List B). lay here.item ∷ l) later.same;
        long = ap suc later.long;
        good = (here.good, later.good);
      })

-- what is used of laid places is what was laid
pub used-back : {A B : Type 0} (lay : A → B) (blank : B) (used : B → List A) → ((x : A) → used (lay x) ≡ x ∷ []) → used blank ≡ []
    → (n : ℕ) (xs : List A) → length xs ≤ n → used_of used (laid_places lay blank n xs) ≡ xs
unfolding laid_places used_of
used-back lay blank used one none zero [] l = refl
used-back lay blank used one none zero (x ∷ xs) l = absurd (omega arith)
used-back lay blank used one none (suc n) [] l = rw none (used-back lay blank used one none n [] (omega arith))
used-back lay blank used one none (suc n) (x ∷ xs) l = rw (one x) (ap (λ r. x ∷ r) (used-back lay blank used one none n xs (omega arith)))
