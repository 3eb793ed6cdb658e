use Rattle.std.proofs.Common.{ℕ, ◌≡◌, ◌<◌, get_or}
use Rattle.vector.specs.Vector.{zero3}
use Rattle.numerics.specs.Bundles.{slices_of}
use Rattle.numerics.specs.Gradient.{gradient_at}
use Rattle.records.proofs.least_squares_gradient.Given as goal

-- the records below c are written
abbrev pub invariant-loop-c : goal.invariant-loop-c
invariant-loop-c l =
    (k : ℕ) → k < l.c → get_or l.out k zero3 ≡ gradient_at (slices_of l.stencil) l.stencil.records l.field.values.now k
