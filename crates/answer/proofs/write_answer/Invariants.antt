-- The invariant: the buffer begins with the records of the facts so far.
use Rattle.answer.proofs.Records.{Answering}
use Rattle.answer.proofs.write_answer.Given as goal

abbrev pub invariant-loop-i : goal.invariant-loop-i
invariant-loop-i l = Answering l.facts l.fn.answer l.answer l.i
