use mathlib.Core.Path.{sym, subst}
use mathlib.Core.Bool.{false≢true}
use Prim.Native.Nat.{ℕ, ◌<◌, ◌≤◌}
use native.Mathlib.Nat.{lt_of_lt_of_le}
use Rattle.chain.specs.Chains.{head_at}
use Rattle.chain.proofs.Search.{below_none, below_more}
use Rattle.chain.proofs.walk.heads_within.Goals as goal

pub loop-cell-init : goal.loop-cell-init
loop-cell-init c = below_none _

pub returns-then-records-head_at : goal.returns-then-records-head_at
returns-then-records-head_at c = λ e. absurd (false≢true e)

pub loop-cell-preserved : goal.loop-cell-preserved
loop-cell-preserved c =
    let within = subst (λ (r : ℕ). r ≤ c.args.records) c.head_at.ensures c.if-records-head_at.false in
    below_more (λ (j : ℕ). head_at c.args.form c.args.heads.now j ≤ c.args.records) c.loop-cell.cell c.loop-cell.invariant within

pub returns : goal.returns
returns c =
    λ _ i h. c.loop-cell.invariant i (lt_of_lt_of_le (subst (λ (k : ℕ). i < k) (sym c.cell_count-cell-end.ensures) h) c.loop-cell-test.false)
