use mathlib.Core.Path.{sym, subst, ◌∙◌}
use lib.Dec.{T}
use Rattle.mesh.proofs.Distances.{own_carried}
use Rattle.predictor.proofs.inner.coefficients.Coupling.own_distance.Goals as goal

pub returns : goal.returns
returns c =
    let fits = rw c.own_distance.ensures at c.own_distance.type_inv in
    c.own_distance.ensures ∙ own_carried _ _ _ _ (subst T (sym fits) tt) (c.args.self.now.coupled.carried c.args.f c.requires)
