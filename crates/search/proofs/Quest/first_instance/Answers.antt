-- `search::Quest::first_instance` meets its contract: the active fact is looked up, matched at its place, and the partners are sought from there.
use Rattle.std.proofs.Common.{◌∙◌, sym}
use Rattle.search.proofs.Seeking.{sought-first, no-place, not-stored}
use Rattle.search.proofs.Quest.first_instance.Goals as goal

pub returns-in_default : goal.returns-in_default
returns-in_default c = not-stored c.requires (sym c.stored_fact.ensures ∙ c.in_default.is) _ _

pub returns-then-not-match_head : goal.returns-then-not-match_head
returns-then-not-match_head c =
    no-place c.requires c.head_start-p.ensures (sym c.stored_fact.ensures ∙ c.in-Some.is) _ _ c.match_head.ensures c.if-not-match_head.true _ _

pub returns : goal.returns
returns c =
    sought-first c.requires c.head_start-p.ensures (sym c.stored_fact.ensures ∙ c.in-Some.is) _ _ c.match_head.ensures c.if-not-match_head.false c.seek.ensures
