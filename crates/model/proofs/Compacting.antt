-- A list is compacted in place: what is kept moves down over what is left out. The invariant of the loop is that the first j places hold
-- what is kept of the first i, and that the places from i on are as they were; it holds for any elements and any test, so that the store
-- and the history share it.
use mathlib.Core.Path.{◌≡◌, refl, sym, ap, ◌∙◌}
use mathlib.Core.Bool.{Bool, true, false, cond}
use mathlib.Core.List.{List, [], ◌∷◌, ◌++◌, append-nil, map}
use Prim.Native.Nat.{ℕ, ◌+◌, ◌<◌, ◌≤◌}
use native.Mathlib.Omega.{arith}
use native.Mathlib.Numerals.{add-one}
use lib.ListN.{get_or, set, take, drop, length, length-set}
use lib.Seq.{take-suc-set, take-suc, drop-set-lt, drop-drop, get_or-drop}
use Rattle.model.specs.Steps.{keep}

keep-snoc : {A : Type 0} (p : A → Bool) (xs : List A) (x : A) → keep p (xs ++ (x ∷ [])) ≡ keep p xs ++ cond (p x) (x ∷ []) []
unfolding keep
keep-snoc {A} p [] x = last (p x)
  where
    last : (b : Bool) → ◌≡◌ {A = List A} (elim b [ true ↦ x ∷ [] | false ↦ [] ]) (cond b (x ∷ []) [])
    last true = refl
    last false = refl
keep-snoc {A} p (y ∷ ys) x = go (p y) (keep-snoc p ys x)
  where
    go : (b : Bool) → keep p (ys ++ (x ∷ [])) ≡ keep p ys ++ cond (p x) (x ∷ []) []
        → ◌≡◌ {A = List A} (elim b [ true ↦ y ∷ keep p (ys ++ (x ∷ [])) | false ↦ keep p (ys ++ (x ∷ [])) ])
        (elim b [ true ↦ y ∷ keep p ys | false ↦ keep p ys ] ++ cond (p x) (x ∷ []) [])
    go true e = ap (λ (l : List A). y ∷ l) e
    go false e = e

-- keeping before or after a map
pub keep-map : {A B : Type 0} (f : A → B) (p : B → Bool) (xs : List A) → map f (keep (λ x. p (f x)) xs) ≡ keep p (map f xs)
unfolding keep
keep-map f p [] = refl
keep-map {A} {B} f p (x ∷ xs) = go (p (f x)) (keep-map f p xs)
  where
    go : (b : Bool) → map f (keep (λ y. p (f y)) xs) ≡ keep p (map f xs)
        → map f (elim b [ true ↦ x ∷ keep (λ y. p (f y)) xs | false ↦ keep (λ y. p (f y)) xs ])
        ≡ elim b [ true ↦ f x ∷ keep p (map f xs) | false ↦ keep p (map f xs) ]
    go true e = ap (λ (l : List B). f x ∷ l) e
    go false e = e

-- the first i of l₀ are passed, and those kept are the first j of l
pub record Compacting {A : Type 0} (p : A → Bool) (l₀ l : List A) (n j i : ℕ) : Type 0 where
  pub order : (j ≤ i) × (i ≤ n)
  pub within : n ≤ length l₀
  pub long : length l ≡ length l₀
  pub front : take j l ≡ keep p (take i l₀)
  pub back : drop i l ≡ drop i l₀

pub compact-none : {A : Type 0} (p : A → Bool) (l : List A) (n : ℕ) → n ≤ length l → Compacting p l l n 0 0
unfolding keep
compact-none p l n h = record { order = omega arith; within = h; long = refl; front = refl; back = refl }

module _ {A : Type 0} {p : A → Bool} {l₀ l : List A} {n j i : ℕ} (r : Compacting p l₀ l n j i) (h : i < n) where
  back-more : drop (i + 1) l ≡ drop (i + 1) l₀
  back-more = sym (drop-drop 1 i l) ∙ ap (drop 1) r.back ∙ drop-drop 1 i l₀

  same-at : (d : A) → get_or l i d ≡ get_or l₀ i d
  same-at d =
      let q : i + 0 ≡ i = omega arith in
      ap (λ (k : ℕ). get_or l k d) (sym q) ∙ sym (get_or-drop i l 0 d)
      ∙ ap (λ (m : List A). get_or m 0 d) r.back
      ∙ get_or-drop i l₀ 0 d ∙ ap (λ (k : ℕ). get_or l₀ k d) q

  kept-more : (d : A) (b : Bool) → p (get_or l i d) ≡ b → keep p (take (i + 1) l₀) ≡ take j l ++ cond b (get_or l i d ∷ []) []
  kept-more d b e =
      let w : i < length l₀ = omega (arith, r.within) in
      rw (add-one i, take-suc l₀ i d w, keep-snoc, r.front, ← same-at d, e)

  pub compact-drop : (d : A) → p (get_or l i d) ≡ false → Compacting p l₀ l n j (i + 1)
  compact-drop d e = record {
    order = omega (arith, r.order.0);
    within = r.within;
    long = r.long;
    front = sym (kept-more d false e ∙ append-nil (take j l));
    back = back-more;
  }

  pub compact-keep : (d : A) → p (get_or l i d) ≡ true → Compacting p l₀ (set l j (get_or l i d)) n (j + 1) (i + 1)
  compact-keep d e =
      let w : j < length l = omega (arith, r.within, r.long, r.order.0) in
      let v : j < i + 1 = omega (arith, r.order.0) in
      record {
        order = omega (arith, r.order.0);
        within = r.within;
        long = simp length-set r.long;
        front = rw (add-one j, take-suc-set l j (get_or l i d) w) (sym (kept-more d true e));
        back = drop-set-lt (i + 1) l j (get_or l i d) v ∙ back-more;
      }
