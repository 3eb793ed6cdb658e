use Rattle.degree.proofs.Chained.{Runs}
use Rattle.degree.proofs.length.all_short.Given as goal

abbrev pub invariant-loop-i : goal.invariant-loop-i
invariant-loop-i l = Runs l.limit l.records l.begin l.i
