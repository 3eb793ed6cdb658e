use Rattle.std.proofs.Common.{◌≡◌}
use Rattle.chain.specs.Sound.{items_from}
use Rattle.stencil.specs.Ring.{neighbours_of, lowest_all}
use Rattle.stencil.specs.Bundles.{ways_of}
use Rattle.stencil.proofs.Walks.{Bounded}
use Rattle.stencil.proofs.inner.ring.Ring.next_in_ring.Given as goal

abbrev pub invariant-loop-n : goal.invariant-loop-n
invariant-loop-n l =
    let w = ways_of l.self in
    let left = items_from l.n-iterator.records.now l.n-iterator.next in
    (goal.iterator-loop-n).can_next l.n-iterator × (goal.iterator-loop-n).is_finite l.n-iterator × Bounded l.self.counts.cells left
    × (lowest_all w l.self.c l.from l.lowest left ≡ lowest_all w l.self.c l.from w.counts.cells (neighbours_of w l.self.c))
