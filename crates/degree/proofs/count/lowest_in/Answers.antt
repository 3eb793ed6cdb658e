use Rattle.std.proofs.Common.{rules, tests}
use mathlib.Core.Path.{◌∙◌}
use native.Mathlib.Omega.{arith}
use Rattle.degree.specs.Degree.{crowded}
use Rattle.degree.proofs.Counting.{wider, tested}
use Rattle.degree.proofs.count.lowest_in.Goals as goal

pub returns : goal.returns
returns c =
    c.lowest.ensures.lowest (crowded c.args.adjacency.now)
    (λ i b h k. search (rules, tests) ∙ tested _ _ _ _ i c.requires.zeros c.requires.faces (omega (arith, h, c.requires.room)) c.count.ensures.counts)

pub count-requires : goal.count-requires
count-requires c = wider _ _ _ c.requires.room c.requires.faces
