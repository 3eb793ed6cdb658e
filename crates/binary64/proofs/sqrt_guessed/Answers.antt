use Rattle.std.proofs.Common.{T, sym, subst, arith}
use Rattle.std.proofs.lemmas.Bool.Decides.{nat_tests}
use lib.Ieee.{binary64}
use lib.Ieee.Bits.{of_bits-to_bits}
use Rattle.binary64.proofs.root.Returned.{root_guessed, guess_number}
use Rattle.binary64.proofs.sqrt_guessed.Goals as goal

pub float_to_bits-b : goal.float_to_bits-b
float_to_bits-b c = guess_number c.args.x c.args.guess c.if-guess-x.true

pub returns-then-contains : goal.returns-then-contains
returns-then-contains c =
    let back = of_bits-to_bits binary64 c.args.guess (subst T (sym c.well_formed.1.0.1) tt) in
    let inside = c.if-contains.ensures.cases in
    root_guessed c.args.x c.args.guess _ back c.if-guess-x.true (grind (arith, nat_tests)) (grind (arith, nat_tests))
