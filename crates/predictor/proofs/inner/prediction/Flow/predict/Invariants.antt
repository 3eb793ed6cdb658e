use Rattle.std.specs.Prelude.{length}
use Rattle.passes.proofs.Stages.{Both, Stores}
use Rattle.coupling.specs.Grid.{grid_of_lent}
use Rattle.predictor.specs.Bundles.{flow_of_lent}
use Rattle.predictor.specs.Coefficients.{internal_at}
use Rattle.predictor.specs.Prediction.{predicted_at}
use Rattle.predictor.proofs.inner.prediction.Flow.predict.Given as goal

abbrev pub invariant-loop-f : goal.invariant-loop-f
invariant-loop-f l =
    let m = grid_of_lent l.self.coupling.grid in
    let q = flow_of_lent l.self in
    let walls = l.self.walls.now in
    record {
      both : Both (internal_at m q.responses) (predicted_at m q walls) (length walls) l.out l.late l.f;
      stores : Stores (internal_at m q.responses) (length walls) (length l.initial.internal) l.internal l.f;
    }
