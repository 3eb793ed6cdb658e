use Rattle.std.proofs.Common.{arith, refl, ◌≡◌, true, length}
use Rattle.std.proofs.lemmas.Grind.{common_steps}
use Rattle.chain.specs.Search.{lowest_where, or_at}
use Rattle.chain.proofs.Search.{Searched, found}
use Rattle.corrector.specs.Velocity.{fails_at}
use Rattle.mesh.specs.Answers.{at}
use Rattle.vector.proofs.Vectors.{start, more}
use Rattle.corrector.proofs.inner.velocity.Velocity.correct.Goals as goal

pub loop-c-init : goal.loop-c-init
unfolding lowest_where
loop-c-init c = record { none = refl; written = start _ _ _ c.requires.out_len }

pub returns-then-not-stands : goal.returns-then-not-stands
unfolding fails_at at
returns-then-not-stands c =
    let v = c.args.self.now in
    let fails : fails_at v.values.now v.responses.now v.gradient.now c.loop-c.c ≡ true = grind (arith, common_steps) in
    let n = length c.args.self.now.responses.now in
    let searched : Searched _ n _ = record { within = omega arith; none = c.loop-c.invariant.none } in
    record { passes = (rw (found _ n c.loop-c.c searched (omega arith) fails, c.at.ensures), λ e. cc) }

pub loop-c-preserved : goal.loop-c-preserved
unfolding lowest_where or_at fails_at
loop-c-preserved c = record {
  none = grind (arith, common_steps);
  written = rw c.put_vector.ensures (more _ _ c.loop-c.out c.loop-c.c _ c.loop-c.invariant.written (omega arith) c.corrected_at-v.ensures);
}
