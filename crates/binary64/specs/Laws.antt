-- What is proved of binary64 in proofs/Laws.antt: the statements alone. One unit is 2 ^ -1074.
use Rattle.std.specs.Prelude.{◌≡◌, ℕ, ◌-◌, ◌*◌, ◌^◌, ◌<◌, ◌≤◌, Bool, true, T, List, length, ℤ, ◌+ℤ◌, ◌-ℤ◌, from_bits, unsigned_abs}
use lib.Ieee.{Float, fin, binary64, up, down, neg, add, sub, mul, fits}
use Rattle.std.specs.Float.Ieee.Scale.{finite}
use Rattle.binary64.specs.Numbers.{zero64, is_usable, magnitude, larger, same}
use Rattle.binary64.specs.Root.{root, Nearest}
use Rattle.binary64.specs.Units.{count, signed_count, total, exact_total, total_count, AllFit, AllFinite, Opposite}

-- ---- a value in units

-- `count` drops nothing: m * 2 ^ e, which is m * up e / down e, is a whole number of units where it fits
abbrev pub CountIsExact : Type 0
CountIsExact = (s : Bool) (m : ℕ) (e : ℤ) → T (fits binary64 (fin s m e)) → count binary64 (fin s m e) * down e ≡ m * up e * 2 ^ 1074

-- ---- one addition

-- how far the sum is from the exact one, in units
abbrev pub addition_error : Float → Float → ℕ
addition_error x y = unsigned_abs (signed_count binary64 (add binary64 x y) -ℤ (signed_count binary64 x +ℤ signed_count binary64 y))

-- within one part in 2 ^ 53 of the exact sum, and no farther from it than either operand is in magnitude
pub record NearSum (x y : Float) : Type 0 where
  pub relative : addition_error x y * 2 ^ 53 ≤ unsigned_abs (signed_count binary64 x +ℤ signed_count binary64 y)
  pub left : addition_error x y ≤ count binary64 x
  pub right : addition_error x y ≤ count binary64 y

abbrev pub Addition : Type 0
Addition = (x y : Float) → T (fits binary64 x) → T (fits binary64 y) → T (finite (add binary64 x y)) → NearSum x y

-- ---- a sum of any number of terms, from +0.0 (Jeannerod and Rump, 2013)

pub record NearTotal (xs : List Float) : Type 0 where
  pub terms : AllFinite xs
  pub near : unsigned_abs (signed_count binary64 (total binary64 zero64 xs) -ℤ exact_total binary64 xs) * 2 ^ 53 ≤ (length xs - 1) * total_count binary64 xs

abbrev pub Summation : Type 0
Summation = (xs : List Float) → AllFit binary64 xs → T (finite (total binary64 zero64 xs)) → NearTotal xs

-- ---- opposite operands

abbrev pub OppositeSums : Type 0
OppositeSums = (x y u v : Float) → Opposite u x → Opposite v y → Opposite (add binary64 u v) (add binary64 x y)

abbrev pub OppositeDifferences : Type 0
OppositeDifferences = (x y u v : Float) → Opposite u x → Opposite v y → Opposite (sub binary64 u v) (sub binary64 x y)

abbrev pub SwappedDifferences : Type 0
SwappedDifferences = (x y : Float) → Opposite (sub binary64 x y) (sub binary64 y x)

-- the sign of a factor is that of the product; where a factor's zero has either sign, the other factor has to be finite
abbrev pub NegatedProducts : Type 0
NegatedProducts = (x y : Float) → (mul binary64 (neg x) y ≡ neg (mul binary64 x y)) × (mul binary64 x (neg y) ≡ neg (mul binary64 x y))

abbrev pub OppositeProducts : Type 0
OppositeProducts = (k x y : Float) → T (finite k) → Opposite y x → Opposite (mul binary64 k y) (mul binary64 k x)

-- ---- values of the format: those of +, -, *, / and negation are so by `lib.Ieee.Fits`

pub record Kept (x y : Float) : Type 0 where
  pub magnitudes : T (fits binary64 (magnitude x))
  pub larger_ones : T (fits binary64 (larger x y))
  pub roots : T (fits binary64 (root x))

abbrev pub FitsKept : Type 0
FitsKept = (x y : Float) → T (fits binary64 x) → T (fits binary64 y) → Kept x y

-- ---- the same bits

-- two floats of the format with the same bits are one
abbrev pub SameIsEqual : Type 0
SameIsEqual = (x y : Float) → T (fits binary64 x) → T (fits binary64 y) → same x y ≡ true → x ≡ y

-- ---- the square root

abbrev pub RootIsNearest : Type 0
RootIsNearest = (x : Float) → T (fits binary64 x) → T (is_usable x) → Nearest binary64 x (root x)

-- the root of a rounded square is the number that was squared, for the numbers from 2 ^ -485 up to 2 ^ 416, given by their bit patterns
abbrev pub RootsOfSquares : Type 0
RootsOfSquares =
    (b : ℕ) → 0x21a0_0000_0000_0000 ≤ b → b < 0x59f0_0000_0000_0000
    → root (mul binary64 (from_bits binary64 b) (from_bits binary64 b)) ≡ from_bits binary64 b
