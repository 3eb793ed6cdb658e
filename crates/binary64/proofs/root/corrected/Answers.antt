use Rattle.std.proofs.Common.{refl}
use Rattle.binary64.proofs.root.Squares.{checked}
use Rattle.binary64.proofs.root.corrected.Goals as goal

pub returns : goal.returns
returns c =
    let left = c.if-left-ge2147483648.false in
    let rest = c.if-rest-ge1602224128.false in
    checked _ _ _ _ _ _ c.requires c.args.guess.least c.args.guess.most refl left refl rest c.from.ensures c.from-2.ensures
