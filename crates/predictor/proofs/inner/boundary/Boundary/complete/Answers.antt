use Rattle.std.proofs.Common.{rules}
use Rattle.mesh.specs.Answers.{or_else}
use Rattle.mesh.specs.Bundles.{bounds_of_lent}
use Rattle.coupling.specs.Grid.{grid_of_lent}
use Rattle.predictor.specs.Boundary.{coefficient_at}
use Rattle.predictor.proofs.inner.boundary.Boundary.complete.Goals as goal

pub returns : goal.returns
unfolding or_else
returns c =
    let b = c.args.self.now in
    let g = coefficient_at (grid_of_lent b.coupling.grid) (bounds_of_lent b.bounds) b.coupling.values.now in
    record {
      passes = rw (← c.requires.out_len, c.requires.begun.0) (c.fill.ensures.fills g (λ i r l p. search rules));
    }
