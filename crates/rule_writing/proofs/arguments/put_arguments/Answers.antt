-- `arguments::put_arguments` meets its contract.
use Prim.Native.Nat.{◌+◌, ◌*◌}
use mathlib.Core.Path.{◌≡◌, refl, sym, ◌∙◌}
use native.Mathlib.Omega.{arith}
use lib.ListN.{length, take}
use Rattle.std.proofs.lemmas.List.{take_all}
use Rattle.grammar.specs.Layout.{used_of}
use Rattle.text_writing.specs.Parts.{open_text}
use Rattle.text_writing.proofs.Writes.{put-none}
use Rattle.rule_writing.proofs.Bracketed.{unit-more, argument-none, argument-some, unclosed, closed, used-more}
use Rattle.rule_writing.proofs.arguments.put_arguments.Goals as goal
use Rattle.rule_writing.proofs.arguments.put_arguments.Goals.{then-is_used, else-is_used}

pub loop-argument-init : goal.loop-argument-init
unfolding used_of open_text
loop-argument-init g c = put-none c.args.page.now ((2 + g.A.Argument.most) * 0) refl

pub loop-argument-preserved : goal.loop-argument-preserved
loop-argument-preserved g c =
    let a = g.A.Argument in
    let next = a.texts c.argument-item.result in
    let done = used_of a.texts (take c.loop-argument.argument-index c.args.arguments.now) in
    let more = used-more a.texts c.args.arguments.now c.loop-argument.argument-index c.argument-item.result c.loop-argument-test.true c.argument-item.is in
    let few = unit-more (2 + a.most) c.loop-argument.argument-index in
    elim c.if-is_used.branch [
      | then-is_used w ↦
          rw (w.page-is, ← more)
          (argument-some done next c.loop-argument.invariant (sym c.is_used.ensures ∙ w.if-is_used.true) (g.met.A.Argument.few c.argument-item.result)
          w.put_separator.ensures w.put.ensures (omega arith))
      | else-is_used w ↦
          rw (w.page-is, ← more) (argument-none done next c.loop-argument.invariant (sym c.is_used.ensures ∙ w.if-is_used.false) (omega arith))
    ]

pub returns-then-page-start : goal.returns-then-page-start
returns-then-page-start g c =
    let i : c.loop-argument.argument-index ≡ length c.args.arguments.now = omega arith in
    let all = rw (i, take_all (length c.args.arguments.now) c.args.arguments.now (omega arith)) at c.loop-argument.invariant in
    closed (used_of g.A.Argument.texts c.args.arguments.now) all c.if-page-start.true c.put-then-page-start.ensures

pub returns-else-page-start : goal.returns-else-page-start
returns-else-page-start g c =
    let i : c.loop-argument.argument-index ≡ length c.args.arguments.now = omega arith in
    let all = rw (i, take_all (length c.args.arguments.now) c.args.arguments.now (omega arith)) at c.loop-argument.invariant in
    unclosed (used_of g.A.Argument.texts c.args.arguments.now) all c.if-page-start.false
