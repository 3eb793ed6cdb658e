-- Values that are the same at every face give the same gradients: the law `Unconditioned`. Assumes nothing.
use mathlib.Core.Path.{◌≡◌, refl, ap}
use mathlib.Core.List.{List}
use Prim.Native.Nat.{ℕ, zero, suc, ◌<◌}
use native.Mathlib.Omega.{arith}
use lib.Ieee.{Float}
use Rattle.vector.specs.Vector.{vectors_of}
use Rattle.coupling.specs.Grid.{Grid}
use Rattle.gauss.specs.Gauss.{sums, gradient_at}
use Rattle.gauss.specs.Pressure.{face_pressure, pressure_without_conditions, Unconditioned}

pub sums_alike : (m : Grid) (g h : ℕ → Float) (cells n : ℕ) → ((f : ℕ) → f < n → g f ≡ h f) → sums m g cells n ≡ sums m h cells n
unfolding sums
sums_alike m g h cells zero e = refl
sums_alike m g h cells (suc n) e = rw (e n (omega arith), sums_alike m g h cells n (λ f l. e f (omega (arith, l))))

pub unconditioned : Unconditioned
unfolding face_pressure pressure_without_conditions
unconditioned m k p cells faces none =
    ap (λ (l : List Float). vectors_of (gradient_at m l) cells)
    (sums_alike m (face_pressure m k p) (pressure_without_conditions m p) cells faces (λ f l. rw ((none f l).0, (none f l).1)))
