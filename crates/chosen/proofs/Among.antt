-- The definition's test for an identifier among some is what `any` answers, and a list is compacted once all of it is passed.
use Rattle.std.proofs.Common.{◌≡◌, refl, ap, ◌∙◌, arith, eqb, ℕ, ◌≤◌, Bool, ◌||◌, List, length, take}
use Rattle.std.proofs.Math.ListN.{get_or, set}
use Rattle.std.proofs.Math.Seq.{set-get_or}
use Rattle.std.specs.List.{list_any}
use Rattle.std.proofs.lemmas.Bool.Decides.{nat_tests}
use Rattle.std.proofs.lemmas.List.{take_all}
use Rattle.std.proofs.lemmas.List.Recursion.{same_from_clauses}
use Rattle.model.specs.declared.FactId.{FactId}
use Rattle.model.specs.Search.{is_among}
use Rattle.model.specs.Steps.{keep}
use Rattle.model.proofs.Compacting.{Compacting}

flip : (a b : ℕ) → eqb a b ≡ eqb b a
flip a b = grind (arith, nat_tests)

pub among-any : (id : FactId) (ids : List FactId) → list_any (λ (j : FactId). eqb j.0 id.0) ids ≡ is_among id ids
unfolding is_among
among-any id =
    same_from_clauses (list_any (λ (j : FactId). eqb j.0 id.0)) (is_among id) (λ j b. eqb j.0 id.0 || b) refl (λ _ _. refl)
    (λ j js. ap (λ (b : Bool). b || is_among id js) (flip id.0 j.0))

-- all of a list is passed
pub compact-all : {A : Type 0} {p : A → Bool} {l₀ l : List A} {n j i : ℕ} → Compacting p l₀ l n j i → length l₀ ≤ i → take j l ≡ keep p l₀
compact-all {A} {p} {l₀} {l} {n} {j} {i} r h = r.front ∙ ap (keep p) (take_all i l₀ h)

-- an item put where it stands
pub set-there : {A : Type 0} (l : List A) (j i : ℕ) (x : A) → j ≤ i → i ≤ j → x ≡ get_or l i x → set l j x ≡ l
set-there l j i x a b e = let q : j ≡ i = omega arith in rw q (ap (set l i) e ∙ set-get_or l i x)
