-- The invariant of `Page::put_decimal`: the digits behind `first` are the number's last ones, and before them belong those of `rest`.
use Rattle.text_writing.proofs.Decimal.{Digits}
use Rattle.text_writing.proofs.Page.put_decimal.Given as goal

abbrev pub invariant-loop-rest : goal.invariant-loop-rest
invariant-loop-rest l = Digits l.n l.digits l.first l.rest

abbrev pub decreases-loop-rest : goal.decreases-loop-rest
decreases-loop-rest l = l.rest
