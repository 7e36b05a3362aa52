-- `search` meets its contract. The invariant: what is left of the search answers for the whole of it.
use mathlib.Core.Path.{ap, ◌∙◌}
use native.Mathlib.Omega.{arith}
use Rattle.raises.specs.Search.{sought_as}
use Rattle.raises.proofs.Turns.{inside, symbol-inside, search-ends, search-finds, search-stops, search-goes-on}
use Rattle.raises.proofs.search.Goals as goal

pub returns-in_err-heavy : goal.returns-in_err-heavy
returns-in_err-heavy c =
    ap (sought_as c.loop.weights) c.from_residual.ensures ∙ search-finds c.args.table.now.known c.loop.invariant (omega arith) c.in_err-heavy.ensures

pub rule-requires : goal.rule-requires
rule-requires c = inside c.args.table.now.known c.loop.invariant (omega arith) c.in_ok-heavy.ensures

pub returns-in_default : goal.returns-in_default
returns-in_default c =
    search-stops c.args.table.now.known c.loop.invariant (omega arith) c.in_ok-heavy.ensures
    (rw (c.rule.ensures.bytes, c.rule.ensures.shape) at c.raise.ensures) c.in_default.is

pub bounds-weights-from : goal.bounds-weights-from
bounds-weights-from c =
    rw c.from.ensures
    (symbol-inside c.args.table.now.known c.loop.invariant (omega arith) c.in_ok-heavy.ensures
    (rw (c.rule.ensures.bytes, c.rule.ensures.shape) at c.raise.ensures) c.in-Some.is)

pub loop-preserved : goal.loop-preserved
loop-preserved c =
    search-goes-on c.args.table.now.known c.loop.invariant (omega arith) c.in_ok-heavy.ensures
    (rw (c.rule.ensures.bytes, c.rule.ensures.shape) at c.raise.ensures) c.in-Some.is c.from.ensures (omega arith)

pub returns : goal.returns
returns c = search-ends c.args.table.now.known c.loop.invariant c.first_heavy-2.ensures (omega arith)
