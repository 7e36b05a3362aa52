-- The invariant of `Page::put_bytes`: the bytes before the index are written.
use Rattle.std.proofs.Common.{take}
use Rattle.text_writing.specs.Written.{Put}
use Rattle.text_writing.proofs.Page.put_bytes.Given as goal

abbrev pub invariant-loop-b : goal.invariant-loop-b
invariant-loop-b l = Put l.initial.self (take l.b-index l.bytes) l.b-index l.self
