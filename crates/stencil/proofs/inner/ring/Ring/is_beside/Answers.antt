use Rattle.std.proofs.Common.{rules, tests, eqb}
use Rattle.std.proofs.lemmas.Iterator.Consumers.{YieldsList-from_first}
use Rattle.std.proofs.lemmas.Iterator.Search.{any_from_yields_List}
use Rattle.chain.specs.Sound.{items_from}
use Rattle.stencil.proofs.inner.ring.Ring.is_beside.Goals as goal

pub returns : goal.returns
returns c =
    any_from_yields_List (λ e. eqb e c.args.d) c.any.new.self _ _ c.any.ensures.ran
    (YieldsList-from_first (λ x. x) (λ s. items_from s.records.now s.next) {s = c.neighbours.result} _ c.neighbours.ensures.items)
    (λ x b q k. search (rules, tests))
