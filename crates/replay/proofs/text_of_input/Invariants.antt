use Rattle.std.proofs.Common.{◌-◌, ◌≤◌}
use Rattle.replay.proofs.text_of_input.Given as goal

abbrev pub invariant-loop-n : goal.invariant-loop-n
invariant-loop-n g l = l.n ≤ 1310720

abbrev pub decreases-loop-n : goal.decreases-loop-n
decreases-loop-n g l = 1310720 - l.n
