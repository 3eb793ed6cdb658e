-- What the parts of `sqrt` ensure of a root's digits. Definitions only.
use Rattle.std.specs.Prelude.{◌≡◌, ℕ, ◌+◌, ◌-◌, ◌*◌, ◌/◌, ◌%◌, ◌^◌, ◌<◌, ◌≤◌, from_bits, Float}
use Rattle.std.specs.Float.{binary64}
use Rattle.std.specs.Float.Ieee.{add, sub, mul}
use Rattle.binary64.specs.Root.{root}

-- h is the whole number nearest to the square root of a * 2 ^ 52: (h - 1/2) ^ 2 < a * 2 ^ 52 < (h + 1/2) ^ 2.
pub record Near (a h : ℕ) : Type 0 where
  pub above : h * h < a * 2 ^ 52 + h
  pub under : a * 2 ^ 52 ≤ h * h + h

-- r is the bit pattern of a number of 26 digits from 1 up to 2
pub record Start (r : ℕ) : Type 0 where
  pub digits : ℕ
  pub least : 2 ^ 25 ≤ digits
  pub most : digits < 2 ^ 26
  pub pattern : r ≡ 1022 * 2 ^ 52 + digits * 2 ^ 27

-- r is the bit pattern of the root of the float with the bit pattern b, from 1 up to 4: both count in 2 ^ -52
pub record RootBits (b r : ℕ) : Type 0 where
  pub digits : ℕ
  pub pattern : r ≡ 1022 * 2 ^ 52 + digits
  pub near : Near ((b % 2 ^ 52 + 2 ^ 52) + (b / 2 ^ 52 - 1023) * (b % 2 ^ 52 + 2 ^ 52)) digits

-- k is the bit pattern of the root of the normal number with the bit pattern b
pub record Confirmed (b k : ℕ) : Type 0 where
  pub normal : 2 ^ 52 ≤ b
  pub above : 2 ^ 52 ≤ k
  pub root : from_bits binary64 k ≡ root (from_bits binary64 b)

-- y - g * g, by s
abbrev pub rest : Float → Float → Float → Float
rest y s g = sub binary64 (sub binary64 y (mul binary64 s s)) (mul binary64 (sub binary64 g s) (add binary64 s g))

-- 255 * 2 ^ -112, that is (2 ^ -52) ^ 2 less one part in 256
abbrev pub margin : Float
margin = from_bits binary64 0x396f_e000_0000_0000
