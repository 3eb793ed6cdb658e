use Rattle.std.proofs.Common.{◌-◌, ◌≤◌}
use Rattle.roots.proofs.read_line.Given as goal

abbrev pub invariant-loop-n : goal.invariant-loop-n
invariant-loop-n g l = l.n ≤ 34

abbrev pub decreases-loop-n : goal.decreases-loop-n
decreases-loop-n g l = 34 - l.n
