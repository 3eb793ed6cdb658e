use lib.Seq.{set_out}
use mathlib.Core.Path.{sym}
use Rattle.passes.proofs.store.Goals as goal

pub returns-else-i-out : goal.returns-else-i-out
returns-else-i-out c =
    sym (set_out _ _ _ c.if-i-out.false)
