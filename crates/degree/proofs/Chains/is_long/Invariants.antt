use Rattle.chain.specs.Chains.{head_at}
use Rattle.chain.specs.declared.Form.TheVariants.{First}
use Rattle.degree.proofs.Chained.{Passed}
use Rattle.degree.proofs.Chains.is_long.Given as goal

abbrev pub invariant-loop-n : goal.invariant-loop-n
invariant-loop-n l = Passed l.self.facing.now (head_at First l.self.heads.now l.cell) l._n l.r
