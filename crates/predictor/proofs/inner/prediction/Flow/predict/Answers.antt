use Rattle.std.proofs.Common.{Ok, Err, ◌≡◌, refl, sym, arith}
use Rattle.std.proofs.lemmas.Grind.{common_steps}
use lib.ListN.{set}
use lib.Ieee.{Float}
use Rattle.refusal.specs.Numbers.{refusal}
use Rattle.refusal.specs.declared.Reason.{Reason}
use Rattle.mesh.specs.Answers.{Outcome}
use Rattle.passes.proofs.Stages.{start, kept, missed, finish, empty, stored}
use Rattle.coupling.specs.Grid.{grid_of_lent}
use Rattle.predictor.specs.Bundles.{flow_of_lent}
use Rattle.predictor.specs.Prediction.{predicted_at}
use Rattle.predictor.proofs.Started.{and_refused}
use Rattle.predictor.proofs.inner.prediction.Flow.predict.Goals as goal
use Rattle.predictor.proofs.inner.prediction.Flow.predict.Goals.{in-Ok-Ok, in-Ok-Err}

pub loop-f-init : goal.loop-f-init
loop-f-init c = record { both = start _ _ _ _ c.requires.out_len; stores = empty _ _ _ _ refl }

pub loop-f-preserved : goal.loop-f-preserved
loop-f-preserved c =
    let m = grid_of_lent c.args.self.now.coupling.grid in
    let q = flow_of_lent c.args.self.now in
    let went_on : (o : Outcome) × (c.stage_at.result ≡ Ok o) = grind (arith, common_steps) in
    record {
      both =
          elim c.match-stage_at-2.branch [
            | in-Ok-Ok w ↦
                let why : (v : Float) × (c.stage_at.result ≡ Ok (Ok v)) × (c.match-stage_at-2.out ≡ set c.loop-f.out c.loop-f.f v) =
                grind (arith, common_steps) in
                rw (w.late-is, why.2) (kept _ _ _ _ _ _ why.0 (rw c.stage_at.ensures.answer at why.1) c.loop-f.invariant.both (omega arith))
            | in-Ok-Err w ↦
                let why : (k : Reason) × (c.stage_at.result ≡ Ok (Err k)) × (w.at.result ≡ refusal k c.loop-f.f) =
                grind (arith, common_steps) in
                rw (w.out-is, w.late-is, w.and-late.ensures, why.2, and_refused)
                (missed _ _ _ _ _ _ why.0 (rw c.stage_at.ensures.answer at why.1) c.loop-f.invariant.both (omega arith))
          ];
      stores =
          stored _ _ _ (predicted_at m q c.args.self.now.walls.now) _ _ _ went_on.0 (rw c.stage_at.ensures.answer at went_on.1)
          c.stage_at.ensures.stored c.loop-f.invariant.stores (omega arith);
    }

pub returns-clause-passes : goal.returns-clause-passes
returns-clause-passes c =
    let w = finish _ _ _ _ _ _ c.loop-f.invariant.both (omega arith) in
    (sym w.0, w.1)
