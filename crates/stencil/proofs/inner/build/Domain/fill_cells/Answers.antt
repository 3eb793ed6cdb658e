use Rattle.std.proofs.Common.{rules, ◌≡◌, Err}
use native.Mathlib.Omega.{arith}
use Rattle.stencil.proofs.inner.build.Whole.{start, more, stop}
use Rattle.stencil.proofs.inner.build.Domain.fill_cells.Goals as goal

pub loop-c-init : goal.loop-c-init
loop-c-init c = (start _ _ _ c.requires.cleared, search rules)

pub returns-in_err-used-clause-filled : goal.returns-in_err-used-clause-filled
returns-in_err-used-clause-filled c =
    let out : c.from_residual.result ≡ Err c.in_err-used.field-0.0 = search rules in
    let i = c.loop-c.invariant in
    rw out (stop _ _ _ _ _ i.0 _ _ (rw i.1.records at c.add_cell.ensures.added) _ c.in_err-used.was c.loop-c-test.true)

pub loop-c-preserved : goal.loop-c-preserved
loop-c-preserved c =
    let i = c.loop-c.invariant in
    let added = rw i.1.records at c.add_cell.ensures.added in
    let sized = rw i.1.records at c.add_cell.ensures.sized in
    (more _ _ _ _ _ i.0 _ _ added _ c.in_ok-used.was sized (omega (arith, i.1.records, c.in_ok-used.ensures.room)), search rules)
