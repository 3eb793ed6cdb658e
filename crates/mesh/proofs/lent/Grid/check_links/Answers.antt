use mathlib.Core.Path.{sym, ◌∙◌}
use Rattle.mesh.proofs.Good.{placed, peers_in, links_passed}
use Rattle.mesh.proofs.lent.Grid.check_links.Goals as goal

pub check_distances-requires-clause-placed : goal.check_distances-requires-clause-placed
check_distances-requires-clause-placed c =
    let checked = rw c.faces.ensures at c.check_links.ensures in
    placed _ _ _ _ c.requires.sized (links_passed _ _ _ (sym checked ∙ c.in_ok-check_links.was)).0

pub check_distances-requires-clause-peers : goal.check_distances-requires-clause-peers
check_distances-requires-clause-peers c =
    let checked = rw c.faces.ensures at c.check_links.ensures in
    peers_in _ _ _ c.requires.codes (links_passed _ _ _ (sym checked ∙ c.in_ok-check_links.was)).2
