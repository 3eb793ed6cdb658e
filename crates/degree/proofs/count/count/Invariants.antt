use mathlib.Core.Path.{◌≡◌}
use Rattle.degree.specs.Counts.{counted}
use Rattle.degree.proofs.count.count.Given as goal

abbrev pub invariant-loop-f : goal.invariant-loop-f
invariant-loop-f l = l.named ≡ counted l.adjacency l.initial.named l.f
