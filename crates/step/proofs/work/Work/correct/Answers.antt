use mathlib.Core.Path.{ap, ◌∙◌}
use mathlib.Core.List.{List}
use lib.Ieee.{Float}
use lib.ListN.{length}
use Rattle.passes.proofs.Stages.{handed_out_lem}
use Rattle.corrector.specs.Correction.{correction_answer, corrected_fluxes}
use Rattle.scheme.proofs.Parts.{predicted_size, correctable_by, correcting_is}
use Rattle.step.specs.Work.{inputs_in}
use Rattle.step.proofs.work.Work.correct.Goals as goal

pub invariant_of-correction : goal.invariant_of-correction
invariant_of-correction c =
    let w = c.args.self.now in
    record { correctable = rw (c.faces.ensures, c.grid.ensures, c.bounds.ensures) (correctable_by (inputs_in w) w.lendable _ c.requires.coefficients) }

pub correct_face_flux-requires-clause-predicted_len : goal.correct_face_flux-requires-clause-predicted_len
correct_face_flux-requires-clause-predicted_len c =
    let w = c.args.self.now in
    let d = inputs_in w in
    rw (c.faces.ensures, c.grid.ensures) (ap (λ (l : List Float). length l) c.requires.predicted ∙ predicted_size d w.lendable)

pub returns-clause-answer : goal.returns-clause-answer
returns-clause-answer c =
    let w = c.args.self.now in
    let answer = rw (c.faces.ensures, c.grid.ensures, c.bounds.ensures) at c.correct_face_flux.ensures.answer in
    answer ∙ ap correction_answer (correcting_is (inputs_in w) w.lendable _ _ c.requires.predicted c.requires.coefficients)

pub returns-clause-contents : goal.returns-clause-contents
returns-clause-contents c =
    let w = c.args.self.now in
    let contents = rw (c.faces.ensures, c.grid.ensures, c.bounds.ensures) at c.correct_face_flux.ensures.contents in
    let is = correcting_is (inputs_in w) w.lendable _ _ c.requires.predicted c.requires.coefficients in
    λ ok. contents ∙ handed_out_lem _ _ _ ok ∙ ap corrected_fluxes is
