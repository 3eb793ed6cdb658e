use mathlib.Core.Path.{refl, sym, ◌∙◌, ap}
use mathlib.Core.Bool.{not}
use native.Mathlib.Omega.{arith}
use Rattle.chain.specs.Chains.{broken_cell}
use Rattle.chain.proofs.Search.{start, more, found, nothing}
use Rattle.chain.proofs.Chains.{ended, no_end, breaks, goes_on}
use Rattle.chain.proofs.walk.lowest_walked.Goals as goal

pub cells-init : goal.cells-init
cells-init c = record { searched = start _ _; none_yet = refl }

pub loop-r-init : goal.loop-r-init
loop-r-init c = record { as_begun = rw c.head_at-r.ensures; none_yet = c.cells.invariant.none_yet }

pub step_at-requires : goal.step_at-requires
step_at-requires c = omega (arith, c.loop-r-test.true)

pub overflow_sub-left : goal.overflow_sub-left
overflow_sub-left c = omega (arith, c.if-left-eq0.false)

pub loop-r-smaller : goal.loop-r-smaller
loop-r-smaller c = omega (arith, c.if-left-eq0.false)

pub loop-r-preserved : goal.loop-r-preserved
loop-r-preserved c = record {
  as_begun =
      goes_on _ _ _ c.loop-r.left c.loop-r.r _ c.if-left-eq0.false c.loop-r-test.true (sym c.step_at.ensures ∙ c.in-Some.is)
      ∙ c.loop-r.invariant.as_begun;
  none_yet = c.loop-r.invariant.none_yet;
}

pub cells-preserved : goal.cells-preserved
unfolding broken_cell
cells-preserved c = record {
  searched =
      more _ _ c.cells.cell c.cells.invariant.searched c.cells-test.true
      (ap not (sym c.loop-r.invariant.as_begun ∙ ended _ _ _ c.loop-r.left c.loop-r.r c.loop-r-test.false));
  none_yet = c.loop-r.invariant.none_yet;
}

pub returns-after-cells : goal.returns-after-cells
returns-after-cells c =
    c.cells.invariant.none_yet ∙ rw (← c.cell_count-cell-end.ensures) (sym (nothing _ _ c.cells.cell c.cells.invariant.searched c.cells-test.false))

pub returns-then-left-eq0 : goal.returns-then-left-eq0
unfolding broken_cell
returns-then-left-eq0 c =
    let broken = no_end _ _ _ c.loop-r.left c.loop-r.r c.if-left-eq0.true c.loop-r-test.true in
    let at = found _ _ _ c.cells.invariant.searched c.cells-test.true (ap not (sym c.loop-r.invariant.as_begun ∙ broken)) in
    rw (← c.cell_count-cell-end.ensures) (sym at)

pub returns-in_default : goal.returns-in_default
unfolding broken_cell
returns-in_default c =
    let broken = breaks _ _ _ c.loop-r.left c.loop-r.r c.loop-r-test.true (sym c.step_at.ensures ∙ c.in_default.is) in
    let at = found _ _ _ c.cells.invariant.searched c.cells-test.true (ap not (sym c.loop-r.invariant.as_begun ∙ broken)) in
    rw (← c.cell_count-cell-end.ensures) (sym at)
