use mathlib.Core.Path.{sym, ◌∙◌}
use Rattle.chain.proofs.Truth.{and_true}
use Rattle.mesh.proofs.Good.{sized}
use Rattle.step.proofs.check_step.Goals as goal

pub check_whole-requires-clause-sized : goal.check_whole-requires-clause-sized
check_whole-requires-clause-sized c =
    let all = c.shape.ensures.sized c.in_ok-shape.was in
    sized _ (sym c.is_sized.ensures ∙ (and_true _ _ (and_true _ _ (and_true _ _ all).0).0).0)
