use mathlib.Core.Path.{refl, sym, ap, ◌∙◌}
use Rattle.mesh.specs.Answers.{or_else}
use Rattle.passes.proofs.Stages.{handed_out_lem}
use Rattle.scheme.specs.Step.{finite_answer}
use Rattle.scheme.proofs.Parts.{flows_by, outflows_is}
use Rattle.step.specs.Work.{inputs_in}
use Rattle.step.proofs.work.Work.measure.Goals as goal

pub invariant_of-flux : goal.invariant_of-flux
invariant_of-flux c =
    let w = c.args.self.now in
    let d = inputs_in w in
    record { flows = rw (c.faces.ensures, c.grid.ensures) (flows_by d w.lendable _ _ c.requires.flux refl) }

pub returns-clause-answer : goal.returns-clause-answer
unfolding or_else
returns-clause-answer c =
    let w = c.args.self.now in
    let d = inputs_in w in
    let is = outflows_is d w.lendable _ _ c.requires.flux refl in
    let answer = rw (c.faces.ensures, c.grid.ensures, is) at c.continuity_metrics.ensures.answer in
    let sums = rw (c.faces.ensures, c.grid.ensures, is) at c.continuity_metrics.ensures.sums in
    rw (sym answer ∙ c.in_ok-continuity_metrics.was)
    (c.finite_outflows.ensures ∙ ap finite_answer (sums ∙ handed_out_lem _ _ _ c.in_ok-continuity_metrics.was))

pub returns-clause-contents : goal.returns-clause-contents
returns-clause-contents c =
    let w = c.args.self.now in
    let d = inputs_in w in
    let is = outflows_is d w.lendable _ _ c.requires.flux refl in
    let sums = rw (c.faces.ensures, c.grid.ensures, is) at c.continuity_metrics.ensures.sums in
    let numbers = rw (c.faces.ensures, c.grid.ensures, is) at c.continuity_metrics.ensures.numbers in
    λ _. (sums ∙ handed_out_lem _ _ _ c.in_ok-continuity_metrics.was, numbers)
