-- `try_find` meets its contract: each test's answer is the definition's case, and what the search found fills the buffer.
use mathlib.Core.Path.{sym, ◌∙◌}
use Rattle.std.proofs.lemmas.Result.{err_from_is_err_and}
use Rattle.finding_weights.proofs.Finding.{table-refused, within, ones-long, other-count, ended-found, ended-stopped}
use Rattle.finding_weights.proofs.try_find.Goals as goal

pub returns-in_err-reading : goal.returns-in_err-reading
returns-in_err-reading c =
    let p = err_from_is_err_and c.from_residual.result c.from_residual.ensures.1 in
    rw (p.1, p.2) (table-refused _ _ c.read-reading.ensures c.in_err-reading.was)

pub returns-then-weights-symbols : goal.returns-then-weights-symbols
returns-then-weights-symbols c =
    rw c.at.ensures (other-count _ _ c.read-reading.ensures c.in_ok-reading.was c.from-symbols.ensures c.if-weights-symbols.true)

pub slice_bounds-own-end : goal.slice_bounds-own-end
slice_bounds-own-end c = within _ c.args.weights.now c.read-reading.ensures c.in_ok-reading.was c.from-symbols.ensures

pub slice_bounds-own-end-2 : goal.slice_bounds-own-end-2
slice_bounds-own-end-2 c = sym (ones-long _ c.args.weights.now c.read-reading.ensures c.in_ok-reading.was c.from-symbols.ensures)

pub search-requires : goal.search-requires
search-requires c = ones-long _ c.args.weights.now c.read-reading.ensures c.in_ok-reading.was c.from-symbols.ensures ∙ c.from-symbols.ensures

pub returns-in-Some : goal.returns-in-Some
returns-in-Some c =
    rw c.at-in-Some.ensures
    (ended-stopped _ _ c.read-reading.ensures c.in_ok-reading.was c.from-symbols.ensures c.if-weights-symbols.false _ _ c.search.ensures c.in-Some.is
    c.from.ensures)

pub copy_from_slice-requires : goal.copy_from_slice-requires
copy_from_slice-requires c =
    c.if-weights-symbols.false ∙ sym (c.search.auto.weights ∙ ones-long _ c.args.weights.now c.read-reading.ensures c.in_ok-reading.was c.from-symbols.ensures)

pub returns : goal.returns
returns c =
    ended-found _ _ c.read-reading.ensures c.in_ok-reading.was c.from-symbols.ensures c.if-weights-symbols.false _ _ c.search.ensures c.in_default.is
    c.copy_from_slice.ensures.after
