use Rattle.std.proofs.Common.{arith}
use Rattle.std.proofs.lemmas.Float.{not_nan_f64_bits}
use Rattle.binary64.proofs.root.Rounding.{scaled_is, scaled_high}
use Rattle.binary64.proofs.root.scaled.Goals as goal

pub float_from_bits-result : goal.float_from_bits-result
float_from_bits-result c =
    let high = scaled_high c.args.a.digits c.args.e c.root_digits-h.result c.args.a.most c.root_digits-h.ensures in
    not_nan_f64_bits _ (omega arith)

pub returns : goal.returns
returns c = scaled_is c.args.a.digits c.args.e _ c.args.a.least c.args.a.most c.requires.least c.requires.most c.root_digits-h.ensures
