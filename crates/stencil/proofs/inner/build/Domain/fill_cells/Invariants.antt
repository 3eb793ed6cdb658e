use Rattle.stencil.specs.Bundles.{lent_in, slices_in, Same}
use Rattle.stencil.proofs.inner.build.Whole.{Pass}
use Rattle.stencil.proofs.inner.build.Domain.fill_cells.Given as goal

abbrev pub invariant-loop-c : goal.invariant-loop-c
invariant-loop-c l = Pass (lent_in l.self) l.initial.out.records l.c l.used (slices_in l.out) × Same l.initial.out l.out
