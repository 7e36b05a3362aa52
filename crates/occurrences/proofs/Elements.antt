-- What `slice_get` finds in a list made of two, and behind the first elements of a list.
use Prim.Native.Nat.{ℕ, zero, suc, ◌+◌, ◌-◌, ◌<◌, ◌≤◌}
use mathlib.Core.Path.{◌≡◌, refl, sym, ap, ◌∙◌}
use mathlib.Core.List.{List, [], ◌∷◌, ◌++◌}
use native.Mathlib.Omega.{arith}
use Rattle.std.specs.Prelude.{slice_get}
use lib.ListN.{length, drop}

module _ {A : Type 0} where
  pub elem-first : (l m : List A) (i : ℕ) → i < length l → slice_get (l ++ m) i ≡ slice_get l i
  elem-first [] m i h = absurd (omega arith)
  elem-first (x ∷ l) m zero h = refl
  elem-first (x ∷ l) m (suc i) h = elem-first l m i (omega arith)

  pub elem-second : (l m : List A) (i : ℕ) → length l ≤ i → slice_get (l ++ m) i ≡ slice_get m (i - length l)
  elem-second [] m i h = let e : i - 0 ≡ i = omega arith in ap (slice_get m) (sym e)
  elem-second (x ∷ l) m zero h = absurd (omega arith)
  elem-second (x ∷ l) m (suc i) h =
      let e : suc i - suc (length l) ≡ i - length l = omega arith in
      elem-second l m i (omega arith) ∙ ap (slice_get m) (sym e)

  pub elem-drop : (l : List A) (n i : ℕ) → slice_get (drop n l) i ≡ slice_get l (n + i)
  elem-drop l zero i = let e : 0 + i ≡ i = omega arith in ap (slice_get l) (sym e)
  elem-drop [] (suc n) i = refl
  elem-drop (x ∷ l) (suc n) i = let e : suc n + i ≡ suc (n + i) = omega arith in elem-drop l n i ∙ ap (slice_get (x ∷ l)) (sym e)

  pub drop-second : (l m : List A) (i : ℕ) → length l ≤ i → drop i (l ++ m) ≡ drop (i - length l) m
  drop-second [] m i h = let e : i - 0 ≡ i = omega arith in ap (λ (x : ℕ). drop x m) (sym e)
  drop-second (x ∷ l) m zero h = absurd (omega arith)
  drop-second (x ∷ l) m (suc i) h =
      let e : suc i - suc (length l) ≡ i - length l = omega arith in
      drop-second l m i (omega arith) ∙ ap (λ (x : ℕ). drop x m) (sym e)
