-- The definition's tests over lists are std's word for `any`.
use Rattle.std.proofs.Common.{◌≡◌, refl, sym, ap, ◌∙◌, eqb, Bool, ◌||◌, ◌&&◌, List, [], ◌∷◌}
use lib.Pointwise.{pointwise}
use Rattle.std.specs.List.{list_any}
use Rattle.std.proofs.lemmas.List.Recursion.{same_from_clauses}
use Rattle.model.specs.declared.FactId.{FactId}
use Rattle.model.specs.declared.Fired.{Fired}
use Rattle.model.specs.Search.{is_among, same_id, same_ids, same_fired, in_history}
use Rattle.model.specs.Steps.{names}

pub names-any : (gone ids : List FactId) → list_any (λ (i : FactId). is_among i gone) ids ≡ names ids gone
unfolding names
names-any gone =
    same_from_clauses (list_any (λ (i : FactId). is_among i gone)) (λ (is : List FactId). names is gone) (λ i b. is_among i gone || b) refl
    (λ _ _. refl) (λ _ _. refl)

same-pointwise : (is js : List FactId) → pointwise same_id is js ≡ same_ids is js
unfolding same_ids
same-pointwise [] [] = refl
same-pointwise [] (j ∷ js) = refl
same-pointwise (i ∷ is) [] = refl
same-pointwise (i ∷ is) (j ∷ js) = ap (λ (b : Bool). same_id i j && b) (same-pointwise is js)

-- two firings are the same where a test of their rules and identifiers says so
pub noted-any : (same : Fired → Fired → Bool) → ((d e : Fired) → same d e ≡ (eqb d.rule.0 e.rule.0 && pointwise same_id d.ids e.ids))
    → (e : Fired) (past : List Fired) → list_any (λ (d : Fired). same d e) past ≡ in_history e past
unfolding same_fired in_history
noted-any same is e =
    same_from_clauses (list_any (λ (d : Fired). same d e)) (in_history e) (λ d b. same d e || b) refl (λ _ _. refl)
    (λ d ds. ap (λ (b : Bool). b || in_history e ds) (sym (agree d)))
  where
    agree : (d : Fired) → same d e ≡ same_fired d e
    agree d = is d e ∙ ap (λ (b : Bool). eqb d.rule.0 e.rule.0 && b) (same-pointwise d.ids e.ids)
