-- What a step is lent, once it has passed the checks. Definitions only.
use Rattle.scheme.specs.Step.{Inputs}
use Rattle.step.specs.Bundles.{inputs_of}
use Rattle.step.specs.declared.work.Work.{Work}

abbrev pub inputs_in : Work → Inputs
inputs_in w = inputs_of w.mesh w.conditions w.records w.fields
