-- What holds of every rule of a table holds of the rule of each head place.
use Rattle.model.specs.declared.Symbol.{Symbol}
use Rattle.model.specs.declared.HeadPlace.{HeadPlace}
use Rattle.model.specs.Table.{Rule, Table, no_rule, rule_at, places}
use Rattle.model.proofs.Every.{every, every-at, every-weaken}
use Rattle.model.proofs.Decoded.{PlaceIn, places-in}

pub places-have : (t : Table) (s : Symbol) (P : Rule → Type 0) → every P t.rules → every (λ (p : HeadPlace). P (rule_at t p.rule)) (places t s)
unfolding rule_at
places-have t s P u =
    every-weaken (PlaceIn t s) (λ (p : HeadPlace). P (rule_at t p.rule))
    (λ p q. every-at P t.rules p.rule.0 no_rule u q.rule_in) (places t s) (places-in t s)
