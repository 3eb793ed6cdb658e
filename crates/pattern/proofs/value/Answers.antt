use Rattle.std.proofs.Common.{sym, ◌∙◌}
use Rattle.pattern.proofs.Nan.{one_nan}
use Rattle.pattern.proofs.value.Goals as goal

pub returns-then-is_nan : goal.returns-then-is_nan
returns-then-is_nan c = one_nan c.args.bits (sym c.is_nan.ensures ∙ c.if-is_nan.true)
