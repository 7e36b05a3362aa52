-- Where a run comes to a whole text, the tokens are the text of its tree, with the counts of the grammar: they are what was read (Consumed), turned round
-- (Turned).
use mathlib.Core.Path.{◌≡◌, sym, ap, ◌∙◌, subst}
use mathlib.Core.List.{List, [], reverse, reverse-reverse}
use Rattle.model.proofs.Lists.{OptionIs}
use Rattle.grammar.specs.Tree.{TableTree}
use Rattle.text.specs.Token.{Token}
use Rattle.text.specs.Text.{Shaped, Text}
use Rattle.parsing.specs.Progress.{Progress, declared, named, slashed, sized, ruled, head_named, head_wants, head_slot, head_done, head_next, headed}
use Rattle.parsing.specs.Progress.{wants, term, operated, formed, body, emptied, item_named, item_done, item_next, table_with}
use Rattle.parsing.specs.Parsed.{forward, whole}
use Rattle.parsing.proofs.Consumed.{consumed, table_read, Fit, Came, run-came}
use Rattle.parsing.proofs.Turned.{turns-table}
use Rattle.parsing.proofs.Forward.{shaped-forward}
use Rattle.parsing.proofs.Complete.{Reaches}

table-text : (w : TableTree) → Shaped w → Text (reverse (table_read w)) (forward w)
table-text w u = record { shaped = shaped-forward w u; spells = sym (turns-table w) }

-- the tree of a state that is whole has as its text what was read
whole-text : (s : Progress) → Fit s → OptionIs (Text (reverse (consumed s))) (whole s)
unfolding whole
whole-text (declared ns) u = table-text (table_with ns []) (record { arities = u; rules = tt })
whole-text (named ns k) u = tt
whole-text (slashed ns) u = tt
whole-text (sized ns) u = tt
whole-text (ruled w) u = table-text w u
whole-text (head_named g hs k) u = tt
whole-text (head_wants g hs k ts) u = tt
whole-text (head_slot g hs k t ts) u = tt
whole-text (head_done g hs h) u = tt
whole-text (head_next g hs) u = tt
whole-text (headed w kept removed) u = tt
whole-text (wants s) u = tt
whole-text (term s a) u = tt
whole-text (operated s o a) u = tt
whole-text (formed s f) u = tt
whole-text (body g) u = tt
whole-text (emptied g) u = tt
whole-text (item_named g is k) u = tt
whole-text (item_done g is i) u = tt
whole-text (item_next g is) u = tt

pub sound : (ts : List Token) (w : TableTree) → Reaches (declared []) ts w → Text ts w
sound ts w r =
    let came : Came [] ts r.state = subst (OptionIs (Came [] ts)) r.runs (run-came ts (declared []) tt) in
    let read : reverse (consumed r.state) ≡ ts = ap (λ (l : List Token). reverse l) came.0 ∙ reverse-reverse ts in
    let text : Text (reverse (consumed r.state)) w = subst (OptionIs (Text (reverse (consumed r.state)))) r.whole (whole-text r.state came.1) in
    rw read at text
