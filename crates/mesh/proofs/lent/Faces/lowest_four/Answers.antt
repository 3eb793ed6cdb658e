use Rattle.std.proofs.Common.{rules, ◌≡◌}
use Rattle.std.specs.Prelude.{None}
use Rattle.mesh.specs.Mesh.{lowest_four}
use Rattle.mesh.proofs.Facts.{coded_in}
use Rattle.mesh.proofs.lent.Faces.lowest_four.Goals as goal

pub returns-clause-faces : goal.returns-clause-faces
returns-clause-faces c =
    λ e.
    let none : lowest_four c.args.self.now.counts.cells c.args.self.now.adjacency.now c.args.codes.now ≡ None = search rules in
    coded_in _ _ _ none
