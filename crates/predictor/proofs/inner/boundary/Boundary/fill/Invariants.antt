use Rattle.passes.proofs.Stages.{Both}
use Rattle.coupling.specs.Grid.{grid_of_lent}
use Rattle.mesh.specs.Bundles.{bounds_of_lent}
use Rattle.predictor.specs.Boundary.{coefficient_at}
use Rattle.predictor.specs.Coefficients.{internal_at}
use Rattle.predictor.proofs.inner.boundary.Boundary.fill.Given as goal

abbrev pub invariant-loop-f : goal.invariant-loop-f
invariant-loop-f l =
    let m = grid_of_lent l.self.coupling.grid in
    let w = l.self.coupling.values.now in
    Both (internal_at m w) (coefficient_at m (bounds_of_lent l.self.bounds) w) l.self.coupling.grid.counts.faces l.out l.late l.f
