use Rattle.std.proofs.Common.{T, sym, subst}
use lib.Ieee.{Float, binary64, of_bits}
use lib.Ieee.Bits.{of_bits-to_bits}
use Rattle.binary64.proofs.root.Settled.{Tested}
use Rattle.binary64.proofs.root.Placed.{tested_number, root_bits}
use Rattle.binary64.proofs.root.quick.Goals as goal

pub float_to_bits-root : goal.float_to_bits-root
float_to_bits-root c = tested_number _ _ _ (subst T c.if-settles.ensures tt)

pub returns-then-root-near : goal.returns-then-root-near
returns-then-root-near c =
    let y = of_bits binary64 c.args.bits in
    let s = of_bits binary64 c.start-near.result in
    let g = c.refined-g in
    let tested : Tested y s g.result = subst T c.if-settles.ensures tt in
    root_bits _ _ _ c.requires.from_one c.requires.below_four c.start-near.ensures c.if-root-near.true
    (subst (λ (x : Float). Tested y s x) (sym (of_bits-to_bits binary64 g.result g.ensures)) tested)
