use Rattle.std.proofs.Common.{◌≡◌}
use Rattle.mesh.specs.Answers.{accepted}
use Rattle.mesh.specs.Pass.{first_refusal}
use Rattle.corrector.specs.Metrics.{divergence_at, largest}
use Rattle.corrector.proofs.inner.metrics.Cells.measure.Given as goal

abbrev pub invariant-loop-c : goal.invariant-loop-c
invariant-loop-c l = record {
  none : first_refusal (divergence_at l.self.places.now l.self.outflow.now) l.c ≡ accepted;
  top : l.maximum ≡ largest (divergence_at l.self.places.now l.self.outflow.now) l.c;
}
