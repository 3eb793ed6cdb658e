use mathlib.Core.Path.{sym}
use Rattle.chain.proofs.Chains.{none_broken}
use Rattle.chain.proofs.walk.lowest_broken.Goals as goal

pub returns-then-heads_within : goal.returns-then-heads_within
returns-then-heads_within c =
    let lead = c.all_lead_on.ensures c.if-all_lead_on.true in
    let within = c.heads_within.ensures c.if-heads_within.true in
    sym (none_broken c.args.records.now c.args.limit lead c.args.form c.args.heads.now within)
