use mathlib.Core.Path.{◌≡◌, sym, ◌∙◌}
use mathlib.Core.Bool.{true, false≢true}
use Prim.Native.Nat.{ℕ}
use native.Mathlib.Omega.{arith}
use Rattle.chain.specs.Chains.{leads_on}
use Rattle.chain.proofs.Search.{below_none, below_more}
use borrow.Author.Tests.{not-false}
use Rattle.chain.proofs.walk.all_lead_on.Goals as goal

pub returns-then-count-eq0 : goal.returns-then-count-eq0
returns-then-count-eq0 c = λ _ i h. absurd (omega (arith, h, c.if-count-eq0.true))

pub loop-i-init : goal.loop-i-init
loop-i-init c = below_none _

pub leads_on-requires : goal.leads_on-requires
leads_on-requires c = omega (arith, c.loop-i-test.true)

pub returns-then-not-leads_on : goal.returns-then-not-leads_on
returns-then-not-leads_on c = λ e. absurd (false≢true e)

pub loop-i-preserved : goal.loop-i-preserved
loop-i-preserved c =
    let leads = sym c.leads_on.ensures ∙ not-false _ c.if-not-leads_on.false-raw in
    below_more (λ (j : ℕ). leads_on c.args.limit c.args.records.now j ≡ true) c.loop-i.i c.loop-i.invariant leads

pub ends_at-requires : goal.ends_at-requires
ends_at-requires c = omega (arith, c.if-count-eq0.false)

pub returns : goal.returns
returns c =
    λ e j h. below_more (λ (j : ℕ). leads_on c.args.limit c.args.records.now j ≡ true) _ (λ k l. c.loop-i.invariant k (omega (arith, l, c.loop-i-test.false)))
    (sym c.ends_at.ensures ∙ e) j (omega (arith, h, c.if-count-eq0.false))
