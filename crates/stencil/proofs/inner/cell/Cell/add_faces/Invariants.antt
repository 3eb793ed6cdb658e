use Rattle.std.proofs.Common.{◌≡◌}
use Rattle.chain.specs.Sound.{items_from}
use Rattle.stencil.specs.Building.{over_all}
use Rattle.stencil.specs.Cell.{step_of, over_faces}
use Rattle.stencil.specs.Bundles.{lent_in, building_in, SameRecords}
use Rattle.stencil.proofs.Walks.{Bounded}
use Rattle.stencil.proofs.inner.cell.Cell.add_faces.Given as goal

abbrev pub invariant-loop-f : goal.invariant-loop-f
invariant-loop-f l =
    let m = lent_in l.self.domain in
    let left = items_from l.f-iterator.records.now l.f-iterator.next in
    let whole = over_faces l.phase m l.initial.b.records l.self.c (building_in l.initial.b) in
    (goal.iterator-loop-f).can_next l.f-iterator × (goal.iterator-loop-f).is_finite l.f-iterator × Bounded m.mesh.counts.faces left
    × SameRecords l.initial.b l.b
    × (over_all (step_of l.phase m l.b.records l.self.c) left (building_in l.b) ≡ whole)
