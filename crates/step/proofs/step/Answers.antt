use mathlib.Core.Path.{sym, ◌∙◌}
use Rattle.step.proofs.Passed.{passed}
use Rattle.step.proofs.step.Goals as goal

pub invariant_of-work : goal.invariant_of-work
invariant_of-work c =
    record { lendable = (passed _ _ (sym c.check_step.ensures.checked ∙ c.in_ok-check_step.was)).0 }

pub carry_out-requires : goal.carry_out-requires
carry_out-requires c =
    record { fit = (passed _ _ (sym c.check_step.ensures.checked ∙ c.in_ok-check_step.was)).1 }
