use Rattle.vector.proofs.Vectors.{start, more}
use Rattle.numerics.proofs.inner.gradient.Slope.least_squares_gradient.Goals as goal

pub loop-c-init : goal.loop-c-init
loop-c-init c = start _ _ _ c.requires.out_len

pub loop-c-preserved : goal.loop-c-preserved
loop-c-preserved c =
    rw c.put_vector.ensures (more _ _ _ _ _ c.loop-c.invariant c.loop-c-test.true c.gradient_at-gradient.ensures.sums)
