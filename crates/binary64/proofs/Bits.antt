-- What a program's tests say of a float, and which bit patterns are no NaN's. Assumes nothing.
use Rattle.std.proofs.Common.{◌≡◌, ℕ, ◌*◌, Bool, true, false, not, ◌&&◌, ◌||◌, T, eqb, sym, refl, ap, ◌∙◌, subst, true≢false}
use mathlib.Core.Bool.{beq}
use lib.Dec.{eqb_refl}
use lib.Ieee.{Float, nan, inf, fin, binary64, up, down, eq, ne, is_nan, of_bits, nan_bits}
use lib.Ieee.Bits.{is_true, nan_bits_is}
use Rattle.std.specs.Float.{float_is_finite, float_with_sign}
use Rattle.binary64.specs.Numbers.{is_finite, magnitude}

-- ---- `x != x` is the test for a NaN
own_level : (s : Bool) (a : ℕ) (t : Bool) → eqb a a ≡ true → (eqb a a && (beq s s || t)) ≡ true
own_level true a t e = ap (λ (b : Bool). b && true) e
own_level false a t e = ap (λ (b : Bool). b && true) e

pub differs_is_nan : (x : Float) → ne x x ≡ is_nan x
unfolding ne eq is_nan
differs_is_nan nan = refl
differs_is_nan (inf true) = refl
differs_is_nan (inf false) = refl
differs_is_nan (fin s m e) =
    ap not (own_level s (m * up e * down e) (eqb (m * up e * down e) 0) (is_true (eqb (m * up e * down e) (m * up e * down e)) (eqb_refl (m * up e * down e))))

pub equal_no_nan : (x : Float) → ne x x ≡ false → T (not (is_nan x))
equal_no_nan x e = subst (λ (b : Bool). T (not b)) (sym e ∙ differs_is_nan x) tt

-- ---- a pattern is a NaN's where its value is the NaN
pub only_nan : (x : Float) → is_nan x ≡ true → x ≡ nan
unfolding is_nan
only_nan nan e = refl
only_nan (inf s) e = absurd (true≢false (sym e))
only_nan (fin s m k) e = absurd (true≢false (sym e))

pub nan_is_nan : is_nan nan ≡ true
unfolding is_nan
nan_is_nan = refl

pub nan_of_bits : (n : ℕ) → nan_bits binary64 n ≡ true → of_bits binary64 n ≡ nan
nan_of_bits n e = only_nan (of_bits binary64 n) (sym (nan_bits_is binary64 n) ∙ e)

pub bits_of_nan : (n : ℕ) → nan ≡ of_bits binary64 n → nan_bits binary64 n ≡ true
bits_of_nan n e = nan_bits_is binary64 n ∙ ap is_nan (sym e) ∙ nan_is_nan

-- ---- what std's methods ensure
pub finite_is : (x : Float) → float_is_finite x ≡ is_finite x
unfolding float_is_finite
finite_is nan = refl
finite_is (inf s) = refl
finite_is (fin s m e) = refl

pub magnitude_is : (x : Float) → float_with_sign false x ≡ magnitude x
unfolding float_with_sign magnitude
magnitude_is nan = refl
magnitude_is (inf s) = refl
magnitude_is (fin s m e) = refl
