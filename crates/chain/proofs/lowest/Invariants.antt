use Rattle.std.proofs.Common.{ℕ, ◌<◌, false}
use Rattle.chain.proofs.lowest.Given as goal

abbrev pub invariant-loop-i : goal.invariant-loop-i
invariant-loop-i g l = (k : ℕ) → k < l.i → goal.F-post g l.test k false
