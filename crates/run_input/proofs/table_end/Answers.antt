-- `run_input::table_end` meets its contract. The invariant: what is left of the records answers for the whole input. Assumes nothing.
use Rattle.run_input.proofs.Turns.{begins, out, at-end, at-unknown, goes-on}
use Rattle.run_input.proofs.table_end.Goals as goal

pub loop-byte-init : goal.loop-byte-init
loop-byte-init c = begins _

pub returns-in_default-kind_of : goal.returns-in_default-kind_of
returns-in_default-kind_of c =
    let byte = c.in-Some.ensures.lookup.3 in at-unknown c.loop-byte.invariant byte.0 (byte.1 0) c.kind_of.ensures c.in_default-kind_of.is

pub returns-in-EndOfTable : goal.returns-in-EndOfTable
returns-in-EndOfTable c =
    let byte = c.in-Some.ensures.lookup.3 in at-end c.loop-byte.invariant byte.0 (byte.1 0) c.kind_of.ensures c.in-Some-kind_of.is c.in-EndOfTable.is

pub loop-byte-preserved : goal.loop-byte-preserved
loop-byte-preserved c =
    let byte = c.in-Some.ensures.lookup.3 in
    goes-on c.loop-byte.invariant byte.0 (byte.1 0) c.kind_of.ensures c.in-Some-kind_of.is c.in_default-kind.not-EndOfTable c.size_of-at.ensures

pub returns : goal.returns
returns c = out c.loop-byte.invariant c.in_default.ensures.lookup.3
