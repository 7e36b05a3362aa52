-- `search::Quest::seek` meets its contract. The partners left fall by one at each call. The active fact has its own place, so that the search
-- is the one for the next partner's head. Over the stored facts, what is tried of those that are left equals the whole: a fact that does not pass
-- the probe, one that is no candidate and one behind which nothing is found are passed over, and any other answer is the whole search's.
use Rattle.std.proofs.Common.{length}
use Rattle.search.proofs.Seeking.{Trying}
use Rattle.search.proofs.Quest.+seek.Given as goal

abbrev pub decreases-seek : goal.decreases-seek
decreases-seek l = l.left

abbrev pub invariant-loop-s : goal.invariant-loop-s
invariant-loop-s l = Trying l.self l.left l.k l.p l.probe l.initial.chosen l.chosen l.initial.binding l.binding l.rest

abbrev pub decreases-loop-s : goal.decreases-loop-s
decreases-loop-s l = length l.rest
