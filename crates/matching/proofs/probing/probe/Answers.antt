-- `matching::probing::probe` meets its contract: the slot that is settled is the head's own.
use Rattle.std.proofs.Common.{rules}
use Rattle.matching.proofs.Slots.{asked-here, asked-nowhere}
use Rattle.matching.proofs.probing.probe.Goals as goal

pub returns-in-Some : goal.returns-in-Some
returns-in-Some c = asked-here _ _ _ _ c.settled.ensures c.in-Some.is (search rules)

pub returns : goal.returns
returns c = asked-nowhere _ _ _
