use mathlib.Core.Path.{◌≡◌}
use Rattle.mesh.specs.FaceDistances.{with_distances}
use Rattle.mesh.proofs.inner.distances.Linked.measure.Given as goal

abbrev pub invariant-loop-f : goal.invariant-loop-f
invariant-loop-f l =
    l.geometry ≡ with_distances l.self.sided.faces.adjacency.now l.initial.geometry l.self.sided.places.now l.self.codes.now l.f
