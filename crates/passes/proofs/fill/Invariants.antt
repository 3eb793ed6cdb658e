use Rattle.std.proofs.Common.{ℕ, ◌<◌, ◌≤◌, ◌≡◌, get_or, Ok}
use Rattle.std.specs.Float.{nan}
use Rattle.passes.proofs.fill.Given as goal

abbrev pub invariant-loop-i : goal.invariant-loop-i
invariant-loop-i g l = record {
  done : (k : ℕ) → k < l.i-counter → goal.F-post g l.item k (get_or l.initial.out k nan) (Ok (get_or l.out k nan));
  same : (k : ℕ) → l.i-counter ≤ k → get_or l.out k nan ≡ get_or l.initial.out k nan;
}
