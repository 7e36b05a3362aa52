-- `Page::put_indexed` meets its contract.
use mathlib.Core.Path.{refl}
use native.Mathlib.Omega.{arith}
use Rattle.text_writing.proofs.Writes.{put-both}
use Rattle.text_writing.proofs.Page.put_indexed.Goals as goal

pub returns : goal.returns
returns c = put-both c.put.ensures c.put_decimal.ensures _ 11 refl (omega arith)
