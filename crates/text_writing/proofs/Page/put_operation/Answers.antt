-- `Page::put_operation` meets its contract.
use native.Mathlib.Omega.{arith}
use Rattle.grammar.specs.Layout.{operation_of}
use Rattle.text_writing.proofs.Writes.{put-told}
use Rattle.text_writing.proofs.Spelled.{operation-few}
use Rattle.text_writing.proofs.Page.put_operation.Goals as goal

pub put_bytes-requires : goal.put_bytes-requires
put_bytes-requires c = rw c.operation_bytes.ensures (omega (arith, operation-few (operation_of c.args.operation)))

pub returns : goal.returns
returns c = put-told c.put_bytes.ensures c.operation_bytes.ensures (operation-few (operation_of c.args.operation))
