use Prim.Native.Nat.{ℕ, ◌<◌, ◌≤◌}
use Rattle.chain.specs.Chains.{head_at}
use Rattle.chain.proofs.walk.heads_within.Given as goal

abbrev pub invariant-loop-cell : goal.invariant-loop-cell
invariant-loop-cell l = (j : ℕ) → j < l.cell → head_at l.form l.heads j ≤ l.records
