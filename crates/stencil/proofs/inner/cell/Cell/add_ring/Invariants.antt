use Rattle.std.proofs.Common.{◌≡◌, ◌<◌, IfSome}
use Rattle.stencil.specs.Lent.{web_of}
use Rattle.stencil.specs.Building.{over_all}
use Rattle.stencil.specs.Cell.{add_ring, extend}
use Rattle.stencil.specs.Ring.{ring_at}
use Rattle.stencil.specs.Bundles.{lent_in, building_in, SameRecords}
use Rattle.stencil.proofs.Walks.{left}
use Rattle.stencil.proofs.inner.cell.Cell.add_ring.Given as goal

abbrev pub invariant-loop-next : goal.invariant-loop-next
invariant-loop-next l =
    let m = lent_in l.self.domain in
    let whole = extend m l.initial.b.records l.self.c (building_in l.initial.b) in
    SameRecords l.initial.b l.b × IfSome l.next (λ d. d < m.mesh.counts.cells)
    × (over_all (add_ring m l.b.records l.self.c) (ring_at (web_of m.mesh) l.self.c l.next) (building_in l.b) ≡ whole)

abbrev pub decreases-loop-next : goal.decreases-loop-next
decreases-loop-next l = left l.self.domain.mesh.counts.cells l.next
