-- From bytes: where every rule of a good table has one removed head, the call finds weights if there are any, and the least.
use Prim.Native.Nat.{ℕ}
use mathlib.Core.Path.{◌≡◌, sym, ap, subst, ◌∙◌}
use mathlib.Core.List.{List}
use lib.ListN.{length}
use borrow.Author.Tests.{eq-eqb}
use Rattle.std.specs.Prelude.{None, Ok}
use Rattle.model.specs.Reading.{read_of}
use Rattle.model.specs.Table.{table_of}
use Rattle.model.specs.Weights.{weight_in, first_heavy}
use Rattle.model.specs.Results.{refusal}
use Rattle.model.proofs.Good.{good-table}
use Rattle.raises.proofs.Accepted.{Each, Weight}
use Rattle.raises.proofs.Least.{OneRemoved, Below, complete}
use Rattle.finding_weights.specs.Find.{Finding, finding, find_ended, find_count, find_table, find_of}
use Rattle.finding_weights.proofs.Promise.{removed-declared}

-- 0, with weights none of which is above those of vs
pub record FindsLeast (t buffer vs : List ℕ) : Type 0 where
  pub zero : (find_of t buffer).result.number ≡ 0
  pub below : Below vs (find_of t buffer).weights

pub find-complete : (t buffer vs : List ℕ) → (read_of t).verdict ≡ Ok tt → length buffer ≡ (read_of t).symbols → OneRemoved (table_of t).rules
    → Each vs Weight → first_heavy (weight_in vs) 0 (table_of t).rules ≡ None → FindsLeast t buffer vs
unfolding find_of find_table find_count find_ended
find-complete t buffer vs good room one weights loses =
    let g = good-table t good in
    let l = complete (table_of t).rules (read_of t).symbols (removed-declared t g) g.few_symbols one vs weights loses in
    let e : find_of t buffer ≡ finding (refusal 0 0) l.least =
    ap (find_table t buffer) good ∙ ap (find_count t buffer) (eq-eqb (length buffer) (read_of t).symbols room) ∙ ap (find_ended buffer) l.is in
    record { zero = ap (λ (o : Finding). o.result.number) e; below = subst (λ (o : Finding). Below vs o.weights) (sym e) l.below }
