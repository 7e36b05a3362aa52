-- `record_tests::read_record` meets its contract: the tests in their order, each passed but the last.
use mathlib.Core.Path.{ap, ◌∙◌}
use Rattle.records.proofs.Tests.{chain}
use Rattle.std.specs.Prelude.{Ok}
use Rattle.std.proofs.lemmas.Result.{err_from_is_err_and}
use Rattle.model.specs.Reading.{record_of, tested_of, ordered_of, fields_of}
use Rattle.record_tests.proofs.Chain.{refuses, passes, cut-told, unknown, known}
use Rattle.record_tests.proofs.read_record.Goals as goal

pub returns-then-table-at : goal.returns-then-table-at
unfolding record_of
returns-then-table-at c = rw c.at.ensures (search chain)

pub returns-in_default : goal.returns-in_default
returns-in_default c = rw c.at-in_default.ensures (unknown _ _ c.if-table-at.false c.kind_of.ensures c.in_default.is)

pub returns-in_err-refuse_if : goal.returns-in_err-refuse_if
unfolding tested_of
returns-in_err-refuse_if c =
    let p = err_from_is_err_and c.from_residual.result c.from_residual.ensures.1 in
    rw (p.1, p.2)
    ((refuses _ _ _ _ c.refuse_if.ensures (cut-told _ c.if-table-at.false c.size_of.ensures) c.in_err-refuse_if.was)
    ∙ known _ _ c.if-table-at.false c.kind_of.ensures c.in-Some.is)

pub returns-in_err-refuse_if-2 : goal.returns-in_err-refuse_if-2
unfolding tested_of ordered_of
returns-in_err-refuse_if-2 c =
    let p = err_from_is_err_and c.from_residual-in_err-refuse_if-2.result c.from_residual-in_err-refuse_if-2.ensures.1 in
    rw (p.1, p.2)
    ((passes _ _ _ _ c.refuse_if.ensures (cut-told _ c.if-table-at.false c.size_of.ensures) c.in_ok-refuse_if.was
    (refuses _ _ _ _ c.refuse_if-2.ensures c.out_of_order.ensures c.in_err-refuse_if-2.was))
    ∙ known _ _ c.if-table-at.false c.kind_of.ensures c.in-Some.is)

pub returns-in_err-refuse_if-3 : goal.returns-in_err-refuse_if-3
unfolding tested_of ordered_of
returns-in_err-refuse_if-3 c =
    let p = err_from_is_err_and c.from_residual-in_err-refuse_if-3.result c.from_residual-in_err-refuse_if-3.ensures.1 in
    rw (p.1, p.2)
    ((passes _ _ _ _ c.refuse_if.ensures (cut-told _ c.if-table-at.false c.size_of.ensures) c.in_ok-refuse_if.was
    (passes _ _ _ _ c.refuse_if-2.ensures c.out_of_order.ensures c.in_ok-refuse_if-2.was
    (refuses _ _ _ _ c.refuse_if-3.ensures c.headless.ensures c.in_err-refuse_if-3.was)))
    ∙ known _ _ c.if-table-at.false c.kind_of.ensures c.in-Some.is)

pub returns-in_err-refuse_if-4 : goal.returns-in_err-refuse_if-4
unfolding tested_of ordered_of
returns-in_err-refuse_if-4 c =
    let p = err_from_is_err_and c.from_residual-in_err-refuse_if-4.result c.from_residual-in_err-refuse_if-4.ensures.1 in
    rw (p.1, p.2)
    ((passes _ _ _ _ c.refuse_if.ensures (cut-told _ c.if-table-at.false c.size_of.ensures) c.in_ok-refuse_if.was
    (passes _ _ _ _ c.refuse_if-2.ensures c.out_of_order.ensures c.in_ok-refuse_if-2.was
    (passes _ _ _ _ c.refuse_if-3.ensures c.headless.ensures c.in_ok-refuse_if-3.was
    (refuses _ _ _ _ c.refuse_if-4.ensures c.too_many.ensures c.in_err-refuse_if-4.was))))
    ∙ known _ _ c.if-table-at.false c.kind_of.ensures c.in-Some.is)

pub returns-in_err-refuse_if-5 : goal.returns-in_err-refuse_if-5
unfolding tested_of ordered_of fields_of
returns-in_err-refuse_if-5 c =
    let p = err_from_is_err_and c.from_residual-in_err-refuse_if-5.result c.from_residual-in_err-refuse_if-5.ensures.1 in
    rw (p.1, p.2)
    ((passes _ _ _ _ c.refuse_if.ensures (cut-told _ c.if-table-at.false c.size_of.ensures) c.in_ok-refuse_if.was
    (passes _ _ _ _ c.refuse_if-2.ensures c.out_of_order.ensures c.in_ok-refuse_if-2.was
    (passes _ _ _ _ c.refuse_if-3.ensures c.headless.ensures c.in_ok-refuse_if-3.was
    (passes _ _ _ _ c.refuse_if-4.ensures c.too_many.ensures c.in_ok-refuse_if-4.was
    (refuses _ _ _ _ c.refuse_if-5.ensures c.bad_field.ensures c.in_err-refuse_if-5.was)))))
    ∙ known _ _ c.if-table-at.false c.kind_of.ensures c.in-Some.is)

pub returns-in_err-refuse_if-6 : goal.returns-in_err-refuse_if-6
unfolding tested_of ordered_of fields_of
returns-in_err-refuse_if-6 c =
    let p = err_from_is_err_and c.from_residual-in_err-refuse_if-6.result c.from_residual-in_err-refuse_if-6.ensures.1 in
    rw (p.1, p.2)
    ((passes _ _ _ _ c.refuse_if.ensures (cut-told _ c.if-table-at.false c.size_of.ensures) c.in_ok-refuse_if.was
    (passes _ _ _ _ c.refuse_if-2.ensures c.out_of_order.ensures c.in_ok-refuse_if-2.was
    (passes _ _ _ _ c.refuse_if-3.ensures c.headless.ensures c.in_ok-refuse_if-3.was
    (passes _ _ _ _ c.refuse_if-4.ensures c.too_many.ensures c.in_ok-refuse_if-4.was
    (passes _ _ _ _ c.refuse_if-5.ensures c.bad_field.ensures c.in_ok-refuse_if-5.was
    (refuses _ _ _ _ c.refuse_if-6.ensures c.strange.ensures c.in_err-refuse_if-6.was))))))
    ∙ known _ _ c.if-table-at.false c.kind_of.ensures c.in-Some.is)

pub returns : goal.returns
unfolding tested_of ordered_of fields_of
returns c =
    (passes _ _ _ _ c.refuse_if.ensures (cut-told _ c.if-table-at.false c.size_of.ensures) c.in_ok-refuse_if.was
    (passes _ _ _ _ c.refuse_if-2.ensures c.out_of_order.ensures c.in_ok-refuse_if-2.was
    (passes _ _ _ _ c.refuse_if-3.ensures c.headless.ensures c.in_ok-refuse_if-3.was
    (passes _ _ _ _ c.refuse_if-4.ensures c.too_many.ensures c.in_ok-refuse_if-4.was
    (passes _ _ _ _ c.refuse_if-5.ensures c.bad_field.ensures c.in_ok-refuse_if-5.was
    (passes _ _ _ _ c.refuse_if-6.ensures c.strange.ensures c.in_ok-refuse_if-6.was
    (ap Ok c.behind.ensures)))))))
    ∙ known _ _ c.if-table-at.false c.kind_of.ensures c.in-Some.is
