use mathlib.Core.Path.{◌≡◌}
use lib.ListN.{length}
use Rattle.numerics.specs.Outflow.{faces_of, scatter}
use Rattle.numerics.proofs.inner.outflow.Flux.integrated_divergence.Given as goal

abbrev pub invariant-loop-f : goal.invariant-loop-f
invariant-loop-f l = (length l.out ≡ length l.initial.out) × (l.out ≡ scatter (faces_of l.self.faces.adjacency.now l.self.values.now) l.initial.out l.f)
