-- `search::Quest::seek` meets its contract. The partners left fall by one at each call. The active fact has its own place, so that the search
-- is the one for the next partner's head. Over the stored facts, what is tried of those that are left equals the whole: a fact that does not pass
-- the probe, one that is no candidate and one behind which nothing is found are passed over, and any other answer is the whole search's.
use Rattle.std.proofs.Common.{arith, rules, sym, ap, ◌∙◌, length}
use Rattle.search.proofs.Seeking.{tried-out, on-passing, fewer, no-match, found-nothing, answer-found}
use Rattle.search.proofs.Seeking.{seat, seat-back, through, judged-last, more-few, head-inside, tries}
use Rattle.search.proofs.Quest.+seek.Goals as goal

pub shared_ref_as_front-judge : goal.shared_ref_as_front-judge
shared_ref_as_front-judge t c = omega (arith, through (seat c.requires c.told-chosen c.partner_from-k.ensures) c.if-left-eq0.true, c.requires.few_heads)

pub returns-then-left-eq0 : goal.returns-then-left-eq0
returns-then-left-eq0 t c = judged-last c.requires c.told-chosen c.partner_from-k.ensures _ c.if-left-eq0.true c.judge.ensures

pub head_start-p-requires : goal.head_start-p-requires
head_start-p-requires t c = omega (arith, more-few (seat c.requires c.told-chosen c.partner_from-k.ensures) c.if-left-eq0.false)

pub probe-probe-requires : goal.probe-probe-requires
probe-probe-requires t c = head-inside (seat c.requires c.told-chosen c.partner_from-k.ensures) c.if-left-eq0.false c.head_start-p.ensures

pub loop-s-init : goal.loop-s-init
loop-s-init t c =
    tries (seat c.requires c.told-chosen c.partner_from-k.ensures) c.if-left-eq0.false c.head_start-p.ensures c.probe-probe.ensures

pub shared_ref_as_front-candidate : goal.shared_ref_as_front-candidate
shared_ref_as_front-candidate t c = let r = c.loop-s.invariant in omega (arith, r.more, r.few_heads)

pub candidate-requires : goal.candidate-requires
candidate-requires t c = let r = c.loop-s.invariant in r.inside

pub bounds-chosen-k : goal.bounds-chosen-k
bounds-chosen-k t c = let r = c.loop-s.invariant in omega (arith, r.more, r.few_heads)

pub returns-then-ne : goal.returns-then-ne
returns-then-ne t c =
    seat-back c.requires c.told-chosen c.partner_from-k.ensures _
    (answer-found (on-passing c.loop-s.invariant) (sym c.from_passing.ensures ∙ c.in-Some.ensures.cases.0) _ _ c.candidate.ensures c.if-candidate.true
    c.seek-found.ensures (λ z. search rules))

pub loop-s-preserved-else-ne : goal.loop-s-preserved-else-ne
loop-s-preserved-else-ne t c =
    found-nothing (on-passing c.loop-s.invariant) (sym c.from_passing.ensures ∙ c.in-Some.ensures.cases.0) _ _ c.candidate.ensures c.if-candidate.true
    c.seek-found.ensures (search rules) (search rules)

pub loop-s-preserved : goal.loop-s-preserved
loop-s-preserved t c =
    no-match (on-passing c.loop-s.invariant) (sym c.from_passing.ensures ∙ c.in-Some.ensures.cases.0) _ _ c.candidate.ensures c.if-candidate.false

pub loop-s-smaller-else-ne : goal.loop-s-smaller-else-ne
loop-s-smaller-else-ne t c = fewer _ _ _ _ c.from_passing.ensures c.in-Some.ensures.cases.1

pub loop-s-smaller : goal.loop-s-smaller
loop-s-smaller t c = fewer _ _ _ _ c.from_passing.ensures c.in-Some.ensures.cases.1

pub returns : goal.returns
returns t c =
    seat-back c.requires c.told-chosen c.partner_from-k.ensures _
    (tried-out (on-passing c.loop-s.invariant) (ap length (sym c.from_passing.ensures) ∙ c.in_default.ensures.cases))
