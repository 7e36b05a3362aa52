-- `step_bound` meets its contract.
use native.Mathlib.Omega.{arith}
use mathlib.Core.Path.{refl}
use Rattle.model.specs.Weights.{step_bound}
use Rattle.step_bound.proofs.Bounds.{product-few, bound-few}
use Rattle.step_bound.proofs.step_bound.Goals as goal

pub overflow_mul-result : goal.overflow_mul-result
unfolding step_bound
overflow_mul-result c = omega (arith, product-few c.args.body c.args.weight c.requires.1 c.requires.2)

pub overflow_add-result : goal.overflow_add-result
unfolding step_bound
overflow_add-result c = omega (arith, product-few c.args.body c.args.weight c.requires.1 c.requires.2)

pub overflow_add-result-2 : goal.overflow_add-result-2
unfolding step_bound
overflow_add-result-2 c = omega arith

pub overflow_mul-result-2 : goal.overflow_mul-result-2
unfolding step_bound
overflow_mul-result-2 c = omega (arith, bound-few c.args.facts c.args.body c.args.weight c.args.places c.requires.0 c.requires.1 c.requires.2 c.requires.3)

pub overflow_add-result-3 : goal.overflow_add-result-3
unfolding step_bound
overflow_add-result-3 c = omega (arith, bound-few c.args.facts c.args.body c.args.weight c.args.places c.requires.0 c.requires.1 c.requires.2 c.requires.3)

pub overflow_add-result-4 : goal.overflow_add-result-4
unfolding step_bound
overflow_add-result-4 c = omega (arith, bound-few c.args.facts c.args.body c.args.weight c.args.places c.requires.0 c.requires.1 c.requires.2 c.requires.3)

pub returns : goal.returns
unfolding step_bound
returns c = refl
