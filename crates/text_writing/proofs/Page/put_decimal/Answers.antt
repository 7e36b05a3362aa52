-- `Page::put_decimal` meets its contract.
use mathlib.Core.Path.{refl}
use native.Mathlib.Omega.{arith}
use Rattle.text_writing.proofs.Writes.{put-told}
use Rattle.text_writing.proofs.Decimal.{decimal-few, digits-none, digits-more, digits-all}
use Rattle.text_writing.proofs.Page.put_decimal.Goals as goal

pub loop-rest-init : goal.loop-rest-init
loop-rest-init c = digits-none c.args.n _ refl (omega arith)

pub loop-rest-preserved : goal.loop-rest-preserved
loop-rest-preserved c = digits-more c.loop-rest.invariant c.loop-rest-test.true

pub returns : goal.returns
returns c = put-told c.put_bytes.ensures (digits-all c.loop-rest.invariant (omega arith)) (decimal-few c.args.n)
