-- The invariant: the record so far is pasted.
use Rattle.answer.proofs.Records.{Writing}
use Rattle.answer.proofs.write_fact.Given as goal

abbrev pub invariant-loop-k : goal.invariant-loop-k
invariant-loop-k l = Writing l.stored l.fn.bytes l.bytes l.k
