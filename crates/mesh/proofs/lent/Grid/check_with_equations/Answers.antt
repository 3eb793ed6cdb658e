use mathlib.Core.Path.{sym, ◌∙◌}
use Rattle.mesh.proofs.Good.{placed, with_equations_passed}
use Rattle.mesh.proofs.lent.Grid.check_with_equations.Goals as goal

pub check_between-requires-clause-placed : goal.check_between-requires-clause-placed
check_between-requires-clause-placed c =
    let checked = rw c.faces.ensures at c.check_with_equations.ensures in
    placed _ _ _ _ c.requires.sized (with_equations_passed _ _ _ _ (sym checked ∙ c.in_ok-check_with_equations.was)).0
