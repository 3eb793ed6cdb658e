use mathlib.Core.Path.{sym, ◌∙◌}
use borrow.Author.Tests.{eqb-true}
use Rattle.chain.proofs.Truth.{and_true}
use Rattle.mesh.proofs.Good.{sized}
use Rattle.mesh.proofs.lent.Mesh.check.Goals as goal

pub check_whole-requires-clause-sized : goal.check_whole-requires-clause-sized
check_whole-requires-clause-sized c = sized _ (sym c.is_sized.ensures ∙ (and_true _ _ (c.shape.ensures.sized c.in_ok-shape.was)).0)

pub check_whole-requires-clause-codes : goal.check_whole-requires-clause-codes
check_whole-requires-clause-codes c = eqb-true _ _ (and_true _ _ (sym c.is_sized-2.ensures.sized ∙ (and_true _ _ (c.shape.ensures.sized c.in_ok-shape.was)).1)).0
