-- `chosen::retain` meets its contract: the first places hold what stays of the items passed, and the places behind are as they were.
use Rattle.std.proofs.Math.ListN.{get_or, set}
use Rattle.std.proofs.lemmas.List.{get_or_default}
use Rattle.std.proofs.Common.{◌≡◌, refl, sym, ap, subst, ◌∙◌, true, false, arith}
use Rattle.model.proofs.Compacting.{compact-none, compact-keep, compact-drop}
use Rattle.chosen.proofs.Among.{compact-all, set-there}
use Rattle.chosen.proofs.retain.Goals.{then-stays, then-kept-i, else-kept-i, else-stays}
use Rattle.chosen.proofs.retain.Goals as goal

pub loop-i-init : goal.loop-i-init
loop-i-init g c = record { fewer = omega arith; long = refl; passed = λ test is. compact-none test _ _ (omega arith) }

pub loop-i-preserved : goal.loop-i-preserved
loop-i-preserved g c =
    let item = c.index-items-i.result in
    let at = c.index-items-i.is in
    elim c.if-stays.branch [
      | then-stays w ↦ record {
        fewer = omega arith;
        long = omega arith;
        passed = λ test is.
            let put : w.if-kept-i.items ≡ set c.loop-i.items c.loop-i.kept item
            = elim w.if-kept-i.branch [
              | then-kept-i v ↦
                  v.items-is ∙ ap (set c.loop-i.items c.loop-i.kept) (v.index-items-i-then-kept-i.is
                  ∙ get_or_default c.loop-i.items c.loop-i.i _ _ (omega (arith, c.loop-i-test.true, c.loop-i.invariant.long)) ∙ sym at)
              | else-kept-i v ↦ v.items-is ∙ sym (set-there _ _ _ item c.loop-i.invariant.fewer v.if-kept-i.false at)
            ] in
            let t : true ≡ test (get_or c.loop-i.items c.loop-i.i item) = is _ true (subst (g.F.Fn.post c.args.stays _) w.if-stays.true c.stays.ensures) in
            rw (w.items-is, put, w.kept-is, at) (compact-keep (c.loop-i.invariant.passed test is) c.loop-i-test.true item (sym t));
      }
      | else-stays w ↦ record {
        fewer = omega arith;
        long = omega arith;
        passed = λ test is.
            let t : false ≡ test (get_or c.loop-i.items c.loop-i.i item) = is _ false (subst (g.F.Fn.post c.args.stays _) w.if-stays.false c.stays.ensures) in
            rw (w.items-is, w.kept-is) (compact-drop (c.loop-i.invariant.passed test is) c.loop-i-test.true item (sym t));
      }
    ]

pub returns-clause-kept : goal.returns-clause-kept
returns-clause-kept g c = λ test is. compact-all (c.loop-i.invariant.passed test is) c.loop-i-test.false

pub returns-clause-fewer : goal.returns-clause-fewer
returns-clause-fewer g c = omega arith
