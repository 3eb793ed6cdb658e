use mathlib.Core.Path.{◌≡◌}
use Prim.Native.Nat.{◌/◌}
use lib.ListN.{length}
use Rattle.std.specs.Prelude.{None}
use Rattle.chain.specs.Chains.{ends, head_at, broken_cell}
use Rattle.chain.proofs.Search.{Searched}
use Rattle.chain.proofs.walk.lowest_walked.Given as goal

abbrev pub invariant-loop-r : goal.invariant-loop-r
invariant-loop-r l =
    let n = length l.records / 2 in
    record {
      as_begun : ends l.records n l.limit l.left l.r ≡ ends l.records n l.limit n (head_at l.form l.heads l.cell);
      none_yet : l.broken ≡ None;
    }

abbrev pub decreases-loop-r : goal.decreases-loop-r
decreases-loop-r l = l.left

abbrev pub invariant-cells : goal.invariant-cells
invariant-cells l =
    record {
      searched : Searched (broken_cell l.limit l.records l.form l.heads) l.cell-end l.cell;
      none_yet : l.broken ≡ None;
    }
