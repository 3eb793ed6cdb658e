use mathlib.Core.Path.{sym, ◌∙◌}
use Rattle.stencil.proofs.inner.build.Whole.{handed, turned_away}
use Rattle.stencil.proofs.inner.build.Domain.least_squares_stencil.Goals as goal

pub returns-then-is_err-clause-built : goal.returns-then-is_err-clause-built
returns-then-is_err-clause-built c =
    let records = c.clear.ensures.same.records in
    let filled = rw records at c.fill_cells-answer.ensures.filled in
    let sized = rw records at c.fill_cells-answer.ensures.sized in
    turned_away _ _ _ _ _ (sym c.if-is_err.true ∙ c.is_err.ensures.value) filled sized c.clear-then-is_err.ensures.cleared

pub returns-else-is_err-clause-built : goal.returns-else-is_err-clause-built
returns-else-is_err-clause-built c =
    let filled = rw c.clear.ensures.same.records at c.fill_cells-answer.ensures.filled in
    handed _ _ _ _ (sym c.if-is_err.false ∙ c.is_err.ensures.value) filled
