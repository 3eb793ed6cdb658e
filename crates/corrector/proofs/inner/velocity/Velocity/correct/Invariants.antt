use Rattle.std.proofs.Common.{◌≡◌, length, None}
use Rattle.chain.specs.Search.{lowest_where}
use Rattle.corrector.specs.Velocity.{corrected_at, fails_at}
use Rattle.vector.proofs.Vectors.{Written}
use Rattle.corrector.proofs.inner.velocity.Velocity.correct.Given as goal

abbrev pub invariant-loop-c : goal.invariant-loop-c
invariant-loop-c l = record {
  none : lowest_where (fails_at l.self.values.now l.self.responses.now l.self.gradient.now) l.c ≡ None;
  written : Written (corrected_at l.self.values.now l.self.responses.now l.self.gradient.now) (length l.self.responses.now) l.out l.c;
}
