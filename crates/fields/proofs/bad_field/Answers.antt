-- `fields::bad_field` meets its contract: one arm a kind.
use mathlib.Core.Logic.{inl, inr}
use Rattle.model.specs.Fields.{bad_field}
use Rattle.fields.proofs.bad_field.Goals as goal

pub returns-in-NextSymbol : goal.returns-in-NextSymbol
unfolding bad_field
returns-in-NextSymbol c = rw c.in-NextSymbol.is

pub returns-in-KeptHead : goal.returns-in-KeptHead
unfolding bad_field
returns-in-KeptHead c = elim c.in-KeptHead.is [ inl e ↦ rw e c.head_bad.ensures | inr e ↦ rw e c.head_bad.ensures ]

pub returns-in-Comparison : goal.returns-in-Comparison
unfolding bad_field
returns-in-Comparison c = rw c.in-Comparison.is c.guard_bad.ensures

pub returns-in-BodyFact : goal.returns-in-BodyFact
unfolding bad_field
returns-in-BodyFact c = rw c.in-BodyFact.is c.body_fact_bad.ensures

pub returns-in-NextRule : goal.returns-in-NextRule
unfolding bad_field
returns-in-NextRule c = elim c.in-NextRule.is [ inl e ↦ rw e | inr o ↦ elim o [ inl e ↦ rw e | inr e ↦ rw e ] ]
