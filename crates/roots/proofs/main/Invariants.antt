-- No more lines are counted than were read.
use Rattle.std.proofs.Common.{◌+◌, ◌<◌}
use Rattle.roots.proofs.main.Given as goal

abbrev pub invariant-loop-line : goal.invariant-loop-line
invariant-loop-line l = l.tally.agreed + l.tally.differ < l.line-counter
