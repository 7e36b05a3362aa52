-- `give` meets its contract: the words in their order, and the number. Assumes nothing.
use mathlib.Core.Path.{refl}
use Rattle.nadhirukh.proofs.give.Goals as goal

pub returns : goal.returns
returns c = record { words = refl; returned = refl }
