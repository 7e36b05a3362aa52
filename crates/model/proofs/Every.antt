-- What holds of every element of a list, and the usual laws: each by recursion on the list.
use Prim.Native.Nat.{ℕ, zero, suc, ◌<◌}
use mathlib.Core.List.{List, [], ◌∷◌, ◌++◌, map}
use native.Mathlib.Omega.{arith}
use lib.ListN.{length, get_or, take, drop, set}

abbrev pub every : {A : Type 0} → (A → Type 0) → List A → Type 0
every P [] = Unit {0}
every P (x ∷ xs) = P x × every P xs

module _ {A : Type 0} (P : A → Type 0) where
  pub every-append : (xs ys : List A) → every P xs → every P ys → every P (xs ++ ys)
  every-append [] ys u v = v
  every-append (x ∷ xs) ys u v = (u.0, every-append xs ys u.1 v)

  pub every-left : (xs ys : List A) → every P (xs ++ ys) → every P xs
  every-left [] ys u = tt
  every-left (x ∷ xs) ys u = (u.0, every-left xs ys u.1)

  pub every-right : (xs ys : List A) → every P (xs ++ ys) → every P ys
  every-right [] ys u = u
  every-right (x ∷ xs) ys u = every-right xs ys u.1

  pub every-take : (n : ℕ) (xs : List A) → every P xs → every P (take n xs)
  every-take zero xs u = tt
  every-take (suc n) [] u = tt
  every-take (suc n) (x ∷ xs) u = (u.0, every-take n xs u.1)

  pub every-drop : (n : ℕ) (xs : List A) → every P xs → every P (drop n xs)
  every-drop zero xs u = u
  every-drop (suc n) [] u = tt
  every-drop (suc n) (x ∷ xs) u = every-drop n xs u.1

  pub every-set : (xs : List A) (i : ℕ) (y : A) → every P xs → P y → every P (set xs i y)
  every-set [] i y u v = tt
  every-set (x ∷ xs) zero y u v = (v, u.1)
  every-set (x ∷ xs) (suc i) y u v = (u.0, every-set xs i y u.1 v)

  -- between `every` and the elements by their index
  pub every-at : (xs : List A) (i : ℕ) (d : A) → every P xs → i < length xs → P (get_or xs i d)
  every-at [] i d u h = absurd (omega arith)
  every-at (x ∷ xs) zero d u h = u.0
  every-at (x ∷ xs) (suc i) d u h = every-at xs i d u.1 (omega arith)

  pub every-by : (xs : List A) (d : A) → ((i : ℕ) → i < length xs → P (get_or xs i d)) → every P xs
  every-by [] d h = tt
  every-by (x ∷ xs) d h = (h 0 (omega arith), every-by xs d (λ i l. h (suc i) (omega arith)))

module _ {A : Type 0} (P Q : A → Type 0) where
  pub every-weaken : ((x : A) → P x → Q x) → (xs : List A) → every P xs → every Q xs
  every-weaken f [] u = tt
  every-weaken f (x ∷ xs) u = (f x u.0, every-weaken f xs u.1)

  pub every-both : (xs : List A) → every P xs → every Q xs → every (λ x. P x × Q x) xs
  every-both [] u v = tt
  every-both (x ∷ xs) u v = ((u.0, v.0), every-both xs u.1 v.1)

pub every-map : {A B : Type 0} (P : B → Type 0) (f : A → B) (xs : List A) → every (λ x. P (f x)) xs → every P (map f xs)
every-map P f [] u = tt
every-map P f (x ∷ xs) u = (u.0, every-map P f xs u.1)
