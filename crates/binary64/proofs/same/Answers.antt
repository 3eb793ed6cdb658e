use Rattle.std.proofs.Common.{T, sym, refl, subst, ◌∙◌}
use Rattle.binary64.specs.Numbers.{same}
use Rattle.binary64.proofs.Identical.{beside_nan, nan_beside}
use Rattle.binary64.proofs.same.Goals as goal

pub returns-then-is_nan : goal.returns-then-is_nan
returns-then-is_nan c =
    c.is_nan-then-is_nan.ensures.value ∙ beside_nan c.args.a c.args.b (subst T (sym c.well_formed.1.0.1) tt) (sym c.if-is_nan.ensures.value)

pub returns-then-is_nan-2 : goal.returns-then-is_nan-2
returns-then-is_nan-2 c =
    nan_beside c.args.a c.args.b (subst T (sym c.well_formed.0.1) tt) (sym c.if-is_nan.ensures.value) (sym c.if-is_nan-2.ensures.value)

pub returns : goal.returns
unfolding same
returns c = refl
