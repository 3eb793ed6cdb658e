use Rattle.std.proofs.Common.{ℕ, ◌<◌, ◌≤◌, ◌≡◌, length, get_or, Ok}
use Rattle.std.specs.Float.{nan}
use Rattle.linked.specs.Linked.{linked_at}
use Rattle.linked.specs.Bundles.{links_of_lent}
use Rattle.linked.proofs.inner.prediction.Links.predict.Given as goal

abbrev pub invariant-loop-f : goal.invariant-loop-f
invariant-loop-f l = record {
  size : length l.predicted ≡ length l.initial.predicted;
  done : (k : ℕ) → k < l.f-counter → linked_at (links_of_lent l.self) l.initial.predicted k ≡ Ok (get_or l.predicted k nan);
  same : (k : ℕ) → l.f-counter ≤ k → get_or l.predicted k nan ≡ get_or l.initial.predicted k nan;
}
