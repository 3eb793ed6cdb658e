use mathlib.Core.Path.{sym, ap, ◌∙◌}
use mathlib.Core.List.{List}
use lib.Ieee.{Float}
use Rattle.passes.proofs.Stages.{handed_out_lem}
use Rattle.predictor.specs.Prediction.{Flow, flow, predicted_fluxes}
use Rattle.scheme.specs.Step.{grid_of}
use Rattle.scheme.proofs.Parts.{slope_by, begun, gradient_by}
use Rattle.step.specs.Work.{inputs_in}
use Rattle.step.proofs.work.Work.predict.Goals as goal

pub invariant_of-slope : goal.invariant_of-slope
invariant_of-slope c =
    let w = c.args.self.now in
    let d = inputs_in w in
    record { sloped = slope_by d w.lendable _ _ c.requires.built.0 c.requires.built.2 c.requires.built.1 c.requires.sized }

pub returns-clause-contents : goal.returns-clause-contents
returns-clause-contents c =
    let w = c.args.self.now in
    let d = inputs_in w in
    let g = gradient_by d w.lendable _ _ _ c.requires.built.2 c.requires.built.1 w.lendable.pressure in
    let flow_by : List Float → Flow = λ g. flow d.velocity.values d.pressure.values g d.responses.values in
    let predicted : List Float → List Float = λ g. predicted_fluxes (grid_of d) (flow_by g) d.walls.values in
    let slopes = c.rhie_chow_predicted_flux.ensures.slopes in
    let contents = rw (c.coupling.ensures.grid, c.coupling.ensures.responses, c.numbers.ensures.same) at c.rhie_chow_predicted_flux.ensures.contents in
    λ ok. (slopes ∙ handed_out_lem _ _ _ ok ∙ g, contents ∙ handed_out_lem _ _ _ ok ∙ ap predicted g)

pub returns-clause-begun : goal.returns-clause-begun
returns-clause-begun c =
    let w = c.args.self.now in
    let d = inputs_in w in
    let long = c.requires.long.0 ∙ sym w.lendable.walls in
    let e = c.rhie_chow_predicted_flux.ensures in
    let answer = rw (c.coupling.ensures.grid, c.coupling.ensures.responses, c.numbers.ensures.same) at e.answer in
    let own = rw (c.coupling.ensures.grid, c.coupling.ensures.responses, c.numbers.ensures.same) at e.coefficients in
    λ ok. begun (grid_of d) _ d.walls.values _ (sym answer ∙ ok) (c.rhie_chow_predicted_flux.auto.internal ∙ long) (own long ok)

pub returns-clause-walls : goal.returns-clause-walls
returns-clause-walls c = c.numbers.ensures.numbers
