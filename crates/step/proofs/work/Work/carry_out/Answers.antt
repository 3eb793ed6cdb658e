use mathlib.Core.Path.{sym, ◌∙◌}
use Rattle.mesh.specs.Pass.{if_refused}
use Rattle.step.specs.Bundles.{outputs_of}
use Rattle.step.specs.Work.{inputs_in}
use Rattle.step.proofs.Handed.{cleared_alike, delivered_of_walls}
use Rattle.step.proofs.work.Work.carry_out.Goals as goal

pub returns-in-Err-clause-contents : goal.returns-in-Err-clause-contents
unfolding if_refused
returns-in-Err-clause-contents c = c.clear.ensures.contents ∙ cleared_alike _ _ _ _ c.run.ensures.fit c.requires.fit

pub returns-clause-contents : goal.returns-clause-contents
unfolding if_refused
returns-clause-contents c = c.run.ensures.contents c.in_default.is

pub returns-clause-demanded : goal.returns-clause-demanded
returns-clause-demanded c =
    let w = c.args.self.now in
    let d = inputs_in w in
    let was = c.in_default.is in
    let walls = c.run.ensures.walls was in
    λ _. delivered_of_walls d w.lendable (outputs_of c.run.new.out) (λ f _. walls f) (c.run.ensures.contents was) (sym c.run.ensures.answer ∙ was)
