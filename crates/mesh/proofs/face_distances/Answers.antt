use mathlib.Core.Path.{sym, ◌∙◌}
use Rattle.mesh.proofs.Made.{measurable, passes}
use Rattle.mesh.proofs.face_distances.Goals as goal

pub returns-clause-passes : goal.returns-clause-passes
returns-clause-passes c = λ _.
    let m = measurable _ _ _ _ _ _ (sym c.check_distances.ensures.checked ∙ c.in_ok-check_distances.was) in
    passes c.args.faces.now.counts _ _ _ _ _ m.long c.measure.ensures
