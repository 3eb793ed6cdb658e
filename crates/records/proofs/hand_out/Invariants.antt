use Rattle.std.proofs.Common.{ℕ, ◌≡◌, ◌*◌, ◌<◌, get_or}
use Rattle.vector.specs.Vector.{vector_at, zero3}
use Rattle.records.proofs.hand_out.Given as goal

-- the records below i are written
abbrev pub invariant-loop-i : goal.invariant-loop-i
invariant-loop-i l = (k : ℕ) → k < l.i → get_or l.out k zero3 ≡ vector_at l.numbers (3 * k)
