-- What a flux is predicted from as it is lent, as the lists that its slices hold. Definitions only.
use Rattle.std.specs.Prelude.{List, length, Float}
use Rattle.numerics.specs.Bundles.{slices_of}
use Rattle.numerics.specs.Gradient.{gradients}
use Rattle.numerics.specs.declared.inner.gradient.Slope.{Slope}
use Rattle.predictor.specs.Prediction.{Flow, flow}
use Rattle.predictor.specs.declared.inner.prediction.Momentum.{Momentum}
use Rattle.predictor.specs.declared.inner.prediction.Flow.{Flow as LentFlow}

-- the gradients of the pressure by the stencil
abbrev pub slopes_of : Slope → List Float
slopes_of s = gradients (slices_of s.stencil) s.stencil.records s.field.now (length s.field.now)

-- with a gradient of the pressure
abbrev pub flow_with : Momentum → List Float → Flow
flow_with m gradient = flow m.velocity.now m.slope.field.now gradient m.coupling.values.now

abbrev pub flow_of_lent : LentFlow → Flow
flow_of_lent q = flow q.velocity.now q.pressure.now q.gradient.now q.coupling.values.now
