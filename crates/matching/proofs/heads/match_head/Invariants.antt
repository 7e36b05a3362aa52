-- `matching::heads::match_head` meets its contract: what the slots that are left make of the binding is what all make of the first one.
use Rattle.matching.proofs.Slots.{Matching}
use Rattle.matching.proofs.heads.match_head.Given as goal

abbrev pub invariant-loop-k : goal.invariant-loop-k
invariant-loop-k l = Matching l.table l.p l.fact l.initial.binding l.binding l.k
