use mathlib.Core.Path.{◌≡◌}
use Prim.Native.Nat.{ℕ, ◌*◌, ◌<◌}
use lib.ListN.{length}
use lib.Ieee.{Float}
use Rattle.coupling.specs.Grid.{grid_of_lent}
use Rattle.gauss.specs.Gauss.{sums}
use Rattle.gauss.proofs.inner.gradient.Gauss.gather.Given as goal

abbrev pub invariant-loop-f : goal.invariant-loop-f
invariant-loop-f g l = record {
  size : length l.out ≡ 3 * l.self.grid.counts.cells;
  gathered : (h : ℕ → Float) → ((f : ℕ) (v : Float) → f < l.self.grid.counts.faces → goal.F-post g l.value f v → v ≡ h f)
      → l.out ≡ sums (grid_of_lent l.self.grid) h l.self.grid.counts.cells l.f;
}
