use Rattle.std.proofs.Common.{rules, tests}
use Rattle.std.proofs.lemmas.Iterator.{YieldsList-from_slice}
use Rattle.std.proofs.lemmas.Iterator.Search.{all_from_yields_List}
use Rattle.binary64.specs.Numbers.{is_finite}
use Rattle.matrix.specs.Normal.{numbers, all_finite}
use Rattle.matrix.proofs.all_finite.Goals as goal

pub returns : goal.returns
unfolding all_finite
returns c =
    all_from_yields_List is_finite _ _ _ c.all.ensures.ran (YieldsList-from_slice (numbers c.args.n) cc) (λ x b q k. search (rules, tests))
