use mathlib.Core.Path.{◌≡◌, sym, ap, ◌∙◌, subst}
use mathlib.Core.Bool.{not}
use borrow.Author.Tests.{eqb-true, eq-eqb}
use lib.Dec.{T}
use lib.Ieee.{Float, nan, binary64, fits, is_nan, of_bits, to_bits}
use lib.Ieee.Bits.{of_bits-to_bits, to_bits-of_bits}
use Rattle.binary64.proofs.Bits.{nan_of_bits, bits_of_nan}
use Rattle.pattern.proofs.Nan.{only_nan}
use Rattle.pattern.proofs.is_of.Goals as goal

pub returns-then-is_nan : goal.returns-then-is_nan
returns-then-is_nan c =
    let x : c.args.x ≡ nan = only_nan c.args.x (sym c.is_nan.ensures.value ∙ c.if-is_nan.true) in
    let is = c.is_nan-then-is_nan.ensures in
    (λ e. x ∙ sym (nan_of_bits c.args.bits (sym is ∙ e)), λ e. is ∙ bits_of_nan c.args.bits (sym x ∙ e))

pub returns : goal.returns
returns c =
    let held : T (fits binary64 c.args.x) = subst T (sym c.well_formed.1.0.1) tt in
    let no_nan : T (not (is_nan c.args.x)) = subst (λ v. T (not v)) (sym c.if-is_nan.false ∙ c.is_nan.ensures.value) tt in
    let not_its = λ (e : c.args.x ≡ of_bits binary64 c.args.bits). subst (λ (v : Float). T (not (is_nan v))) e no_nan in (
      λ e. sym (of_bits-to_bits binary64 c.args.x held) ∙ ap (of_bits binary64) (eqb-true _ _ e),
      λ e. eq-eqb _ _ (ap (to_bits binary64) e ∙ to_bits-of_bits binary64 c.args.bits c.ranges.bits.fits (not_its e)),
    )
