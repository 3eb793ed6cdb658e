use mathlib.Core.Path.{sym, ◌∙◌}
use Rattle.mesh.proofs.Good.{placed, sides_passed}
use Rattle.mesh.proofs.lent.Grid.check_sides.Goals as goal

pub check_between-requires-clause-placed : goal.check_between-requires-clause-placed
check_between-requires-clause-placed c =
    let checked = rw c.faces.ensures at c.check_sides.ensures in
    placed _ _ _ _ c.requires.sized (sides_passed _ _ (sym checked ∙ c.in_ok-check_sides.was)).0
