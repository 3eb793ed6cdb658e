-- Tests on floats and choices among them, as the functions of the crate make them. Definitions only.
use Rattle.std.specs.Prelude.{Bool, false, cond, not, ◌&&◌, eqb, is_nan, to_bits, Float}
use Rattle.std.specs.Float.{nan, inf, fin, binary64}
use Rattle.std.specs.Float.Ieee as Ieee
use Rattle.std.specs.Float.Ieee.Scale.{finite}

-- +0.0
abbrev pub zero64 : Float
zero64 = Ieee.of_bits binary64 0

-- 1.0, and EPS, which is 2 ^ -52
abbrev pub one64 : Float
one64 = Ieee.of_bits binary64 0x3ff0000000000000

abbrev pub eps : Float
eps = Ieee.of_bits binary64 0x3cb0000000000000

-- neither a NaN nor an infinity
abbrev pub is_finite : Float → Bool
is_finite = finite

-- finite, and not at most 0: what a coefficient, a response or a volume has to be
abbrev pub is_usable : Float → Bool
is_usable x = is_finite x && not (Ieee.le x zero64)

-- finite, and not at most EPS: what a distance or its square has to be
abbrev pub is_far : Float → Bool
is_far x = is_finite x && not (Ieee.le x eps)

-- the sign cleared
unfoldable pub magnitude : Float → Float
magnitude nan = nan
magnitude (inf s) = inf false
magnitude (fin s m e) = fin false m e

-- The larger. Beside a NaN it is the other, and of two that are equal the first, so of +0.0 and -0.0 the first too: Rust's `f64::max` leaves
-- that one open, and is asked for magnitudes alone.
unfoldable pub larger : Float → Float → Float
larger a b = cond (is_nan a) b (cond (Ieee.lt a b) b a)

-- the same bits; every NaN has the same here
unfoldable pub same : Float → Float → Bool
same a b = eqb (to_bits binary64 a) (to_bits binary64 b)

-- one operation of binary64, rounded to nearest, ties to even
infixl 65 ◌⊕◌
infixl 65 ◌⊖◌
infixl 70 ◌⊗◌
infixl 70 ◌⊘◌
abbrev pub ◌⊕◌ : Float → Float → Float
a ⊕ b = Ieee.add binary64 a b

abbrev pub ◌⊖◌ : Float → Float → Float
a ⊖ b = Ieee.sub binary64 a b

abbrev pub ◌⊗◌ : Float → Float → Float
a ⊗ b = Ieee.mul binary64 a b

abbrev pub ◌⊘◌ : Float → Float → Float
a ⊘ b = Ieee.div binary64 a b
