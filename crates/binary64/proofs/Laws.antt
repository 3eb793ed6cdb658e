-- What is proved of binary64: each law of specs/Laws.antt. Assumes nothing.
use Rattle.std.proofs.Common.{ℕ, ◌-◌, ◌*◌, ◌^◌, ◌≤◌, T, List, length, ◌+ℤ◌, ◌-ℤ◌, nat_abs, sym, ap, le_trans, le_of_eq}
use lib.Ieee.{Float, Format, binary64, prec, add, fits}
use lib.Ieee.Scale.{finite}
use Rattle.binary64.specs.Units.{count, signed_count, total, exact_total, total_count, AllFit}
use Rattle.binary64.specs.Laws.{CountIsExact, Addition, Summation, OppositeSums, OppositeDifferences, SwappedDifferences, NegatedProducts, OppositeProducts, FitsKept, SameIsEqual, RootIsNearest, RootsOfSquares}
use Rattle.binary64.proofs.Value.{whole}
use Rattle.binary64.proofs.Addition.{add_law}
use Rattle.binary64.proofs.Summation.{zero, total_finite, total_law}
use Rattle.binary64.proofs.Integers.{off_is, both_is, error_is}
use Rattle.binary64.proofs.Sign.{mul-neg_left, mul-neg_right}
use Rattle.binary64.proofs.Opposites.{add_opposed, sub_opposed, sub_swap, mul_opposed}
use Rattle.binary64.proofs.Identical as identical
use Rattle.binary64.proofs.Kept.{magnitude_fits, larger_fits, root_fits}
use Rattle.binary64.proofs.root.Middles.{root_is_nearest}
use Rattle.binary64.proofs.root.Returned.{returned_bits}

-- ---- in either format, from the law on two naturals
module _ (f : Format) (x y : Float) (F : T (fits f x)) (G : T (fits f y)) (t : T (finite (add f x y))) where
  abbrev error : ℕ
  error = nat_abs (signed_count f (add f x y) -ℤ (signed_count f x +ℤ signed_count f y))

  relative : error * 2 ^ prec f ≤ nat_abs (signed_count f x +ℤ signed_count f y)
  relative = le_trans (le_of_eq (ap (λ (d : ℕ). d * 2 ^ prec f) (off_is f (add f x y) x y))) (le_trans (add_law f x y F G t).0 (le_of_eq (sym (both_is f x y))))

  left : error ≤ count f x
  left = le_trans (le_of_eq (off_is f (add f x y) x y)) (add_law f x y F G t).1

  right : error ≤ count f y
  right = le_trans (le_of_eq (off_is f (add f x y) x y)) (add_law f x y F G t).2

near_total : (f : Format) (xs : List Float) → AllFit f xs → T (finite (total f (zero f) xs))
    → nat_abs (signed_count f (total f (zero f) xs) -ℤ exact_total f xs) * 2 ^ prec f ≤ (length xs - 1) * total_count f xs
near_total f xs A t = le_trans (le_of_eq (ap (λ (d : ℕ). d * 2 ^ prec f) (error_is f (total f (zero f) xs) xs))) (total_law f xs A t)

-- ---- in binary64
pub count_is_exact : CountIsExact
count_is_exact s m e F = sym (whole binary64 s m e F).0

pub addition : Addition
addition x y F G t = record { relative = relative binary64 x y F G t; left = left binary64 x y F G t; right = right binary64 x y F G t }

pub summation : Summation
summation xs A t = record { terms = (total_finite binary64 (zero binary64) xs t).1; near = near_total binary64 xs A t }

pub opposite_sums : OppositeSums
opposite_sums = add_opposed binary64

pub opposite_differences : OppositeDifferences
opposite_differences = sub_opposed binary64

pub swapped_differences : SwappedDifferences
swapped_differences = sub_swap binary64

pub negated_products : NegatedProducts
negated_products x y = (mul-neg_left binary64 x y, mul-neg_right binary64 x y)

pub opposite_products : OppositeProducts
opposite_products = mul_opposed binary64

pub fits_kept : FitsKept
fits_kept x y F G = record { magnitudes = magnitude_fits binary64 x F; larger_ones = larger_fits binary64 x y F G; roots = root_fits binary64 x F }

pub same_is_equal : SameIsEqual
same_is_equal = identical.same_is_equal

pub nearest-root : RootIsNearest
nearest-root = root_is_nearest

pub roots_of_squares : RootsOfSquares
roots_of_squares b lo hi = (returned_bits b lo hi).back
