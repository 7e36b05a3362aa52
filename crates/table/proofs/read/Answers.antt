-- `read` meets its contract. The invariant: what is left of the records answers for the whole table, the scan is sane, and the marks are those of the
-- rule being read.
use borrow.Author.Rules.{rules}
use Rattle.table.proofs.Turns.{left-begins, follows, smaller, rule-among, next-none, next-rule, read-stopped, read-done, end-near}
use Rattle.table.proofs.read.Goals as goal

pub loop-next-init : goal.loop-next-init
loop-next-init c = left-begins _ (search rules) (search rules) c.no_marks-named.ensures

pub mark-requires : goal.mark-requires
mark-requires c = (search rules, search follows)

pub bounds-shapes-s : goal.bounds-shapes-s
bounds-shapes-s c = search rule-among

pub loop-next-smaller-then-s-gt0 : goal.loop-next-smaller-then-s-gt0
loop-next-smaller-then-s-gt0 c = search smaller

pub loop-next-preserved-then-s-gt0 : goal.loop-next-preserved-then-s-gt0
loop-next-preserved-then-s-gt0 c = search next-rule

pub loop-next-smaller : goal.loop-next-smaller
loop-next-smaller c = search smaller

pub loop-next-preserved : goal.loop-next-preserved
loop-next-preserved c = search next-none

pub end-requires : goal.end-requires
end-requires c = search end-near

pub returns-in-Ok-Done : goal.returns-in-Ok-Done
returns-in-Ok-Done c = search read-done

pub returns-in-Err : goal.returns-in-Err
returns-in-Err c = search read-stopped
