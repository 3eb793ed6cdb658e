-- Two floats of the format with the same bits are one. Assumes nothing.
use Rattle.std.proofs.Common.{◌≡◌, ℕ, ◌⊎◌, Bool, true, false, T, sym, refl, ap, ◌∙◌, subst, true≢false, arith}
use mathlib.Core.Logic.{inl, inr}
use lib.Dec.{eqb_refl}
use lib.Ieee.{Float, nan, binary64, fits, is_nan, of_bits, to_bits}
use lib.Ieee.Bits.{is_true, of_bits-to_bits}
use lib.Ieee.Fits.{nan-fits}
use borrow.Author.Tests.{eqb-true}
use Rattle.binary64.specs.Numbers.{same}
use Rattle.binary64.specs.Root.{root}
use Rattle.binary64.specs.Significand.{Confirmed}
use Rattle.binary64.proofs.Bits.{only_nan, nan_is_nan}

pub same_is_equal : (a b : Float) → T (fits binary64 a) → T (fits binary64 b) → same a b ≡ true → a ≡ b
unfolding same
same_is_equal a b ta tb e = sym (of_bits-to_bits binary64 a ta) ∙ ap (of_bits binary64) (eqb-true _ _ e) ∙ of_bits-to_bits binary64 b tb

pub same_refl : (a : Float) → same a a ≡ true
unfolding same
same_refl a = is_true _ (eqb_refl (to_bits binary64 a))

pub equal_is_same : (a b : Float) → a ≡ b → same a b ≡ true
equal_is_same a b e = ap (same a) (sym e) ∙ same_refl a

-- a NaN's bits are no number's
pub same_nan_left : (b : Float) → T (fits binary64 b) → is_nan b ≡ false → same nan b ≡ false
same_nan_left b t e = go (same nan b) refl
  where
    go : (q : Bool) → same nan b ≡ q → q ≡ false
    go true h = absurd (true≢false (sym nan_is_nan ∙ ap is_nan (same_is_equal nan b (nan-fits binary64) t h) ∙ e))
    go false h = refl

pub same_nan_right : (a : Float) → T (fits binary64 a) → is_nan a ≡ false → same a nan ≡ false
same_nan_right a t e = go (same a nan) refl
  where
    go : (q : Bool) → same a nan ≡ q → q ≡ false
    go true h = absurd (true≢false (sym nan_is_nan ∙ ap is_nan (sym (same_is_equal a nan t (nan-fits binary64) h)) ∙ e))
    go false h = refl

-- beside a NaN
pub beside_nan : (a b : Float) → T (fits binary64 b) → is_nan a ≡ true → is_nan b ≡ same a b
beside_nan a b t e = subst (λ (x : Float). is_nan b ≡ same x b) (sym (only_nan a e)) (go (is_nan b) refl)
  where
    go : (q : Bool) → is_nan b ≡ q → is_nan b ≡ same nan b
    go true h = h ∙ sym (equal_is_same nan b (sym (only_nan b h)))
    go false h = h ∙ sym (same_nan_left b t h)

pub nan_beside : (a b : Float) → T (fits binary64 a) → is_nan a ≡ false → is_nan b ≡ true → false ≡ same a b
nan_beside a b t e h = sym (same_nan_right a t e) ∙ ap (same a) (sym (only_nan b h))

-- ---- a number confirmed by its bits is the root
pub confirmed : (b k : ℕ) (x r : Float) → (b ≡ 0) ⊎ (of_bits binary64 b ≡ x) → (k ≡ 0) ⊎ (of_bits binary64 k ≡ r) → Confirmed b k → same r (root x) ≡ true
confirmed b k x r (inl z) v c = let n = c.normal in absurd (omega (arith, n, z))
confirmed b k x r (inr e) (inl z) c = let n = c.above in absurd (omega (arith, n, z))
confirmed b k x r (inr e) (inr h) c = equal_is_same r (root x) (sym h ∙ c.root ∙ ap root e)
