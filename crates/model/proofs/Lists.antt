-- Lists: more of a property of each element, what `keep` leaves, what stands at an index, and tests turned into facts. Each goes by the list's own
-- cases.
use Prim.Native.Nat.{ℕ, zero, suc, ◌≤◌, ◌<◌}
use native.Mathlib.Omega.{arith}
use mathlib.Core.Path.{◌≡◌, refl, sym, ap, subst}
use mathlib.Core.Bool.{Bool, true, false, not, cond, ◌&&◌, ◌||◌}
use mathlib.Core.Logic.{◌⊎◌, inl, inr}
use Rattle.std.specs.Prelude.{Option, Some, None, slice_get}
use mathlib.Core.List.{List, [], ◌∷◌, ◌++◌, map, Memᴰ}
use lib.ListN.{length, get_or, drop, replicate}
use Rattle.model.specs.Steps.{keep}
use Rattle.model.proofs.Every.{every, every-append, every-weaken}

-- ---- each element of a list has a property (Every)

module _ {A : Type 0} where
  module _ (P : A → Type 0) where
    pub every-snoc : (xs : List A) (y : A) → every P xs → P y → every P (xs ++ (y ∷ []))
    every-snoc xs y u p = every-append P xs (y ∷ []) u (p, tt)

    pub every-get_d : (xs : List A) (i : ℕ) (d : A) → every P xs → P d → P (get_or xs i d)
    every-get_d [] i d u p = p
    every-get_d (x ∷ xs) zero d u p = u.0
    every-get_d (x ∷ xs) (suc i) d u p = every-get_d xs i d u.1 p

    pub every-mem : (xs : List A) → every P xs → (x : A) → Memᴰ x xs → P x
    every-mem [] u x m = elim m [ ]
    every-mem (y ∷ xs) u x (Memᴰ.head e) = subst P (sym e) u.0
    every-mem (y ∷ xs) u x (Memᴰ.tail m) = every-mem xs u.1 x m

    pub every-keep : (p : A → Bool) (xs : List A) → every P xs → every (λ x. P x × (p x ≡ true)) (keep p xs)
    unfolding keep
    every-keep p [] u = tt
    every-keep p (x ∷ xs) u = go (p x) refl (every-keep p xs u.1)
      where
        go : (b : Bool) → p x ≡ b → every (λ y. P y × (p y ≡ true)) (keep p xs)
            → every (λ y. P y × (p y ≡ true)) (elim b [ true ↦ x ∷ keep p xs | false ↦ keep p xs ])
        go true q v = ((u.0, q), v)
        go false q v = v

  -- what was left of a list with a property has it still
  pub every-kept : (P : A → Type 0) (p : A → Bool) (xs : List A) → every P xs → every P (keep p xs)
  every-kept P p xs u = every-weaken (λ x. P x × (p x ≡ true)) P (λ x q. q.0) (keep p xs) (every-keep P p xs u)

pub every-replicate : {A : Type 0} (P : A → Type 0) (n : ℕ) (x : A) → P x → every P (replicate n x)
every-replicate P zero x p = tt
every-replicate P (suc n) x p = (p, every-replicate P n x p)

pub map-snoc : {A B : Type 0} (f : A → B) (xs : List A) (y : A) → map f (xs ++ (y ∷ [])) ≡ map f xs ++ (f y ∷ [])
map-snoc f [] y = refl
map-snoc f (x ∷ xs) y = ap (λ l. f x ∷ l) (map-snoc f xs y)

pub map-drop : {A B : Type 0} (f : A → B) (n : ℕ) (xs : List A) → map f (drop n xs) ≡ drop n (map f xs)
map-drop f zero xs = refl
map-drop f (suc n) [] = refl
map-drop f (suc n) (x ∷ xs) = map-drop f n xs

-- ---- what `keep` leaves

module _ {A : Type 0} where
  pub keep-length : (p : A → Bool) (xs : List A) → length (keep p xs) ≤ length xs
  unfolding keep
  keep-length p [] = omega arith
  keep-length p (x ∷ xs) = go (p x) (keep-length p xs)
    where
      go : (b : Bool) → length (keep p xs) ≤ length xs → length {A = A} (elim b [ true ↦ x ∷ keep p xs | false ↦ keep p xs ]) ≤ suc (length xs)
      go true h = omega arith
      go false h = omega arith

  pub keep-snoc : (p : A → Bool) (xs : List A) (y : A) → p y ≡ true → keep p (xs ++ (y ∷ [])) ≡ keep p xs ++ (y ∷ [])
  unfolding keep
  keep-snoc p [] y q = rw q
  keep-snoc p (x ∷ xs) y q = go (p x) (keep-snoc p xs y q)
    where
      go : (b : Bool) → keep p (xs ++ (y ∷ [])) ≡ keep p xs ++ (y ∷ [])
          → ◌≡◌ {A = List A} (elim b [ true ↦ x ∷ keep p (xs ++ (y ∷ [])) | false ↦ keep p (xs ++ (y ∷ [])) ])
          (elim b [ true ↦ x ∷ keep p xs | false ↦ keep p xs ] ++ (y ∷ []))
      go true e = ap (λ l. x ∷ l) e
      go false e = e

  -- kept twice is kept by both tests
  pub keep-keep : (p q r : A → Bool) → ((x : A) → r x ≡ (q x && p x)) → (xs : List A) → keep p (keep q xs) ≡ keep r xs
  unfolding keep
  keep-keep p q r h [] = refl
  keep-keep p q r h (x ∷ xs) = go (q x) (r x) (h x) (keep-keep p q r h xs)
    where
      go : (a c : Bool) → c ≡ (a && p x) → keep p (keep q xs) ≡ keep r xs
          → ◌≡◌ {A = List A} (keep p (elim a [ true ↦ x ∷ keep q xs | false ↦ keep q xs ])) (elim c [ true ↦ x ∷ keep r xs | false ↦ keep r xs ])
      go true c e ih = rw e (ap (λ (l : List A). elim (p x) [ true ↦ x ∷ l | false ↦ l ]) ih)
      go false c e ih = rw e ih

-- ---- what stands at an index

abbrev pub OptionIs : {A : Type 0} → (A → Type 0) → Option A → Type 0
OptionIs P None = Unit {0}
OptionIs P (Some x) = P x

pub index-is : {A : Type 0} (P : A → Type 0) (l : List A) (n : ℕ) → every P l → OptionIs (λ x. P x × (n < length l)) (slice_get l n)
index-is P [] n u = tt
index-is P (x ∷ l) zero u = (u.0, omega arith)
index-is P (x ∷ l) (suc n) u = go (slice_get l n) (index-is P l n u.1)
  where
    go : (o : Option _) → OptionIs (λ x. P x × (n < length l)) o → OptionIs (λ x. P x × (suc n < suc (length l))) o
    go None v = tt
    go (Some y) v = (v.0, omega arith)

-- ---- tests, turned into facts

pub or-false-left : (a b : Bool) → (a || b) ≡ false → a ≡ false
or-false-left true b e = e
or-false-left false b e = refl

pub or-false-right : (a b : Bool) → (a || b) ≡ false → b ≡ false
or-false-right true b e = cc
or-false-right false b e = e

pub or-true : (a b : Bool) → (a || b) ≡ true → (a ≡ true) ⊎ (b ≡ true)
or-true true b e = inl refl
or-true false b e = inr e

pub or-both : (a b : Bool) → a ≡ false → b ≡ false → (a || b) ≡ false
or-both true b p q = p
or-both false b p q = q

pub and-left : (a b : Bool) → (a && b) ≡ true → a ≡ true
and-left true b e = refl
and-left false b e = e

pub and-right : (a b : Bool) → (a && b) ≡ true → b ≡ true
and-right true b e = e
and-right false b e = cc

pub not-true : (a : Bool) → not a ≡ true → a ≡ false
not-true true e = sym e
not-true false e = refl

-- no test says both
pub never : {A : Type 0} → true ≡ false → A
never e = absurd cc

-- what holds of either answer to a test
pub either : {A : Type 0} (P : A → Type 0) (c : Bool) (x y : A) → (c ≡ true → P x) → (c ≡ false → P y) → P (cond c x y)
either P true x y p q = p refl
either P false x y p q = q refl

-- ---- a list of four, by its places

pub of-four : {A : Type 0} (xs : List A) (d : A) → length xs ≡ 4 → (get_or xs 0 d ∷ get_or xs 1 d ∷ get_or xs 2 d ∷ get_or xs 3 d ∷ []) ≡ xs
of-four [] d l = absurd (omega arith)
of-four (a ∷ []) d l = absurd (omega arith)
of-four (a ∷ b ∷ []) d l = absurd (omega arith)
of-four (a ∷ b ∷ c ∷ []) d l = absurd (omega arith)
of-four (a ∷ b ∷ c ∷ e ∷ []) d l = refl
of-four (a ∷ b ∷ c ∷ e ∷ f ∷ xs) d l = absurd (omega arith)
