-- The fact of an identifier is that of the first stored one that is found by it.
use Rattle.std.proofs.Common.{◌≡◌, refl, ap, ◌∙◌, Bor, Bool, true, false, List, [], ◌∷◌, cond, Option, Some, None}
use Rattle.std.specs.List.{find}
use Rattle.std.specs.Option.{option_map}
use Rattle.model.specs.declared.FactId.{FactId}
use Rattle.model.specs.declared.Fact.{Fact}
use Rattle.model.specs.declared.Stored.{Stored}
use Rattle.model.specs.Search.{stored_fact, same_id, fact_if}

pub found-fact : (id : FactId) (ss : List Stored) → option_map (λ (s : Stored). s.fact) (find (λ (s : Stored). same_id s.id id) ss) ≡ stored_fact id ss
unfolding stored_fact
found-fact id [] = refl
found-fact id (s ∷ ss) = go (same_id s.id id) (find (λ (x : Stored). same_id x.id id) ss) (found-fact id ss)
  where
    go : (b : Bool) (found : Option Stored) {later : Option Fact} → option_map (λ (x : Stored). x.fact) found ≡ later
        → option_map (λ (x : Stored). x.fact) (cond b (Some s) found) ≡ fact_if b s.fact later
    go true found e = refl
    go false found e = e

-- the same of what `find` gave
pub found-as : (id : FactId) (ss : List Stored) (o : Option (Bor Stored)) → option_map (λ (s : Bor Stored). s.now) o ≡ find (λ (s : Stored). same_id s.id id) ss
    → option_map (λ (s : Bor Stored). s.now.fact) o ≡ stored_fact id ss
found-as id ss o e = same o ∙ ap (option_map (λ (s : Stored). s.fact)) e ∙ found-fact id ss
  where
    same : (q : Option (Bor Stored))
        → option_map (λ (s : Bor Stored). s.now.fact) q ≡ option_map (λ (s : Stored). s.fact) (option_map (λ (s : Bor Stored). s.now) q)
    same (Some s) = refl
    same None = refl
