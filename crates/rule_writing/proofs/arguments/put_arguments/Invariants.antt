-- The invariant of `arguments::put_arguments`: those before the index are written, but for the closing bracket.
use Prim.Native.Nat.{◌+◌, ◌*◌}
use lib.ListN.{take}
use Rattle.grammar.specs.Layout.{used_of}
use Rattle.text_writing.specs.Written.{Put}
use Rattle.text_writing.specs.Parts.{open_text}
use Rattle.rule_writing.proofs.arguments.put_arguments.Given as goal

abbrev pub invariant-loop-argument : goal.invariant-loop-argument
invariant-loop-argument g l =
    let a = g.A.Argument in
    Put l.initial.page (open_text (used_of a.texts (take l.argument-index l.arguments))) ((2 + a.most) * l.argument-index) l.page
