use mathlib.Core.Path.{sym, ◌∙◌}
use Rattle.mesh.specs.Bundles.{mesh_of}
use Rattle.mesh.proofs.Good.{sound, sound_placed, sound_peers}
use Rattle.mesh.proofs.lent.Mesh.check_whole.Goals as goal

pub check_distances-requires-clause-placed : goal.check_distances-requires-clause-placed
check_distances-requires-clause-placed c =
    let m = mesh_of c.args.self.now in
    let is = sound m c.args.codes.now c.requires.sized c.requires.codes (sym c.check_topology.ensures ∙ c.in_ok-check_topology.was) in
    rw c.grid.ensures (sound_placed m _ c.requires.sized is)

pub check_distances-requires-clause-peers : goal.check_distances-requires-clause-peers
check_distances-requires-clause-peers c =
    let m = mesh_of c.args.self.now in
    let is = sound m c.args.codes.now c.requires.sized c.requires.codes (sym c.check_topology.ensures ∙ c.in_ok-check_topology.was) in
    rw c.grid.ensures (sound_peers m _ c.requires.codes is)
