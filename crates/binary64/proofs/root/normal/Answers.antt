use Rattle.std.proofs.Common.{arith}
use Rattle.std.proofs.lemmas.Float.{not_nan_f64_bits}
use Rattle.binary64.proofs.root.Placed.{placed}
use Rattle.binary64.proofs.root.normal.Goals as goal

pub float_from_bits-result : goal.float_from_bits-result
float_from_bits-result c =
    let found = placed c.args.b c.in-Some.g c.requires.least c.requires.most c.in-Some.ensures in
    not_nan_f64_bits _ (omega arith)

pub returns-in-Some : goal.returns-in-Some
returns-in-Some c = (placed c.args.b c.in-Some.g c.requires.least c.requires.most c.in-Some.ensures).root
