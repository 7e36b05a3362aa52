-- `Page::put_comparator` meets its contract.
use native.Mathlib.Omega.{arith}
use Rattle.grammar.specs.Layout.{comparator_of}
use Rattle.text_writing.proofs.Writes.{put-told}
use Rattle.text_writing.proofs.Spelled.{comparator-few}
use Rattle.text_writing.proofs.Page.put_comparator.Goals as goal

pub put_bytes-requires : goal.put_bytes-requires
put_bytes-requires c = rw c.comparator_bytes.ensures (omega (arith, comparator-few (comparator_of c.args.comparator)))

pub returns : goal.returns
returns c = put-told c.put_bytes.ensures c.comparator_bytes.ensures (comparator-few (comparator_of c.args.comparator))
