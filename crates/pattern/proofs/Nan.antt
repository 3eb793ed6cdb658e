-- The NaN and its patterns. Assumes nothing.
use mathlib.Core.Path.{◌≡◌, refl, sym, ◌∙◌, subst}
use mathlib.Core.Bool.{true}
use Prim.Native.Nat.{ℕ}
use lib.Dec.{T}
use lib.Ieee.{Float, nan, is_nan, binary64, of_bits, to_bits, nan_bits}
use lib.Ieee.Compare.{differs_from_itself}
use Rattle.binary64.proofs.Bits.{differs_is_nan, nan_of_bits}

pub only_nan : (x : Float) → is_nan x ≡ true → x ≡ nan
only_nan x e = differs_from_itself x (subst T (sym (differs_is_nan x ∙ e)) tt)

pub quiet : to_bits binary64 nan ≡ 0x7ff8_0000_0000_0000
unfolding to_bits
quiet = refl

-- Each pattern of a NaN has the value of the quiet one.
pub one_nan : (n : ℕ) → nan_bits binary64 n ≡ true → of_bits binary64 0x7ff8_0000_0000_0000 ≡ of_bits binary64 n
unfolding nan_bits
one_nan n e = nan_of_bits 0x7ff8_0000_0000_0000 refl ∙ sym (nan_of_bits n e)
