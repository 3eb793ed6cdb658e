use borrow.Author.Rules.{rules}
use mathlib.Core.Path.{ap, ◌∙◌}
use mathlib.Core.List.{List}
use lib.Ieee.{Float}
use lib.ListN.{length}
use Rattle.scheme.proofs.Parts.{unlinked_size, coefficients_size, paired, links_is}
use Rattle.step.specs.Work.{inputs_in}
use Rattle.step.proofs.work.Work.link.Goals as goal

pub invariant_of-flow : goal.invariant_of-flow
invariant_of-flow c =
    let ready = c.args.self.now.lendable in
    record {
      sized = rw (c.coupling.ensures.grid, c.coupling.ensures.responses, ready.pressure) (ready.velocity, c.requires.long, ready.responses, ready.walls);
    }

pub invariant_of-links : goal.invariant_of-links
invariant_of-links c =
    let w = c.args.self.now in
    let d = inputs_in w in
    record {
      bounded = search rules;
      paired = rw (c.bounds.ensures, c.coupling.ensures.grid) (paired d w.lendable);
      sized = rw c.coupling.ensures.grid (ap (λ (l : List Float). length l) c.requires.coefficients ∙ coefficients_size d w.lendable);
    }

pub predict-requires : goal.predict-requires
predict-requires c =
    let w = c.args.self.now in
    record { size = rw c.coupling.ensures.grid (ap (λ (l : List Float). length l) c.requires.unlinked ∙ unlinked_size (inputs_in w) w.lendable) }

pub returns : goal.returns
returns c =
    let w = c.args.self.now in
    let d = inputs_in w in
    let passes = rw (c.bounds.ensures, c.coupling.ensures.grid, c.coupling.ensures.responses) at c.predict.ensures.passes in
    let is = links_is d w.lendable _ _ c.requires.gradient c.requires.coefficients in
    record {
      answer = rw (← c.requires.unlinked, ← is) passes.0;
      contents = λ ok. rw (← c.requires.unlinked, ← is) (passes.1 ok);
    }
