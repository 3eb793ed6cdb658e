use Rattle.std.proofs.Common.{rules, ◌≡◌}
use Rattle.std.specs.Prelude.{None}
use Rattle.mesh.specs.Checks.{lowest_bad_face}
use Rattle.mesh.proofs.Facts.{faces_in}
use Rattle.mesh.proofs.lent.Faces.lowest_bad_face.Goals as goal

pub returns-clause-faces : goal.returns-clause-faces
returns-clause-faces c =
    λ e.
    let none : lowest_bad_face c.args.self.now.counts.cells c.args.self.now.adjacency.now ≡ None = search rules in
    faces_in _ _ none
