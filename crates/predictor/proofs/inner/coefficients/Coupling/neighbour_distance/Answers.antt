use mathlib.Core.Path.{sym, subst, ◌∙◌}
use lib.Dec.{T}
use Rattle.mesh.proofs.Distances.{other_carried}
use Rattle.predictor.proofs.inner.coefficients.Coupling.neighbour_distance.Goals as goal

pub returns : goal.returns
returns c =
    let fits = rw c.other_distance.ensures at c.other_distance.type_inv in
    let carried = c.args.self.now.coupled.carried c.args.f c.requires.face in
    c.other_distance.ensures ∙ other_carried _ _ _ _ (subst T (sym fits) tt) carried c.requires.two_cells
