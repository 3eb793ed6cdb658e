use lib.ListN.{length}
use Rattle.vector.proofs.Vectors.{Written}
use Rattle.numerics.specs.Bundles.{slices_of}
use Rattle.numerics.specs.Gradient.{gradient_at}
use Rattle.numerics.proofs.inner.gradient.Slope.least_squares_gradient.Given as goal

abbrev pub invariant-loop-c : goal.invariant-loop-c
invariant-loop-c l = Written (gradient_at (slices_of l.self.stencil) l.self.stencil.records l.self.field.now) (length l.self.field.now) l.out l.c
