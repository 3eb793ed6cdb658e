use Rattle.std.proofs.Common.{sym, ap, ◌∙◌}
use lib.Ieee.{binary64, to_bits}
use Rattle.pattern.proofs.Nan.{only_nan, quiet}
use Rattle.pattern.proofs.bits.Goals as goal

pub returns-then-is_nan : goal.returns-then-is_nan
returns-then-is_nan c =
    sym (ap (to_bits binary64) (only_nan c.args.x (sym c.is_nan.ensures.value ∙ c.if-is_nan.true)) ∙ quiet)
