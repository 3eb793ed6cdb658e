use Rattle.coupling.specs.Grid.{grid_of_lent}
use Rattle.vector.proofs.Vectors.{Replaced}
use Rattle.gauss.specs.Gauss.{gradient_at}
use Rattle.gauss.proofs.inner.gradient.Gauss.divide.Given as goal

abbrev pub invariant-loop-c : goal.invariant-loop-c
invariant-loop-c l = Replaced (gradient_at (grid_of_lent l.self.grid) l.initial.out) l.self.grid.counts.cells l.initial.out l.out l.c
