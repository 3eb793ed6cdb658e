use mathlib.Core.Path.{refl}
use Rattle.degree.proofs.Chained.{none_broken, none_long}
use Rattle.degree.proofs.Chains.search.Goals as goal

pub returns-then-heads_within_facing : goal.returns-then-heads_within_facing
returns-then-heads_within_facing c =
    let all = c.all_short.ensures c.if-all_short.true in
    let within = c.heads_within_facing.ensures c.if-heads_within_facing.true in
    rw (none_broken _ _ all _ within, none_long _ _ all _ within) refl
