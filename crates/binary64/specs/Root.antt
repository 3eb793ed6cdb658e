-- IEEE 754's square root over the values of `lib.Ieee`: the value nearest to the exact root. Definitions only.
use Rattle.std.specs.Prelude.{ℕ, zero, suc, ◌+◌, ◌-◌, ◌*◌, ◌/◌, ◌^◌, ◌<◌, true, false, cond, T, from_bits, to_bits, Float}
use Prim.Native.Nat.{compare}
use Rattle.std.specs.Float.{nan, inf, fin, Format, binary64}
use Rattle.std.specs.Float.Ieee.{prec, low, up, down, size, nearest, units, fits}
use Rattle.lines.specs.Lines.{whole_root}
use Rattle.binary64.specs.Numbers.{is_usable}
use Rattle.binary64.specs.Units.{count}

-- The value of the format f nearest to the square root of w, where w counts squares of f's smallest value, so that the root counts smallest values.
-- Of the root's whole part (`whole_root` of crates/lines) the format keeps the `prec` leading digits q and drops k.
-- The root is between q * 2 ^ k and (q + 1) * 2 ^ k,
-- and how it compares with the middle, (2 * q + 1) * 2 ^ k / 2, is how 4 * w compares with the square of (2 * q + 1) * 2 ^ k.
unfoldable pub nearest_root : Format → ℕ → Float
unfolding whole_root size units
nearest_root f w =
    let s = whole_root (size w) w in
    let k = size s - prec f in
    let q = s / 2 ^ k in
    units f false (nearest q (compare (4 * w) ((2 * q + 1) * 2 ^ k * ((2 * q + 1) * 2 ^ k)))) k

-- The square root: of a number below zero there is none, and a zero keeps its sign.
unfoldable pub root_in : Format → Float → Float
unfolding nearest_root
root_in f nan = nan
root_in f (inf s) = cond s nan (inf s)
root_in f (fin s zero e) = fin s zero e
root_in f (fin true (suc m) e) = nan
root_in f (fin false (suc m) e) = nearest_root f (suc m * up e * 2 ^ low f * 2 ^ low f / down e)

abbrev pub root : Float → Float
root = root_in binary64

-- r is the value of f nearest to the root of x, for an x that is finite and above zero: r is finite and above zero too, and with l and h the middles
-- between r and the values next below and next above it, l * l < x < h * h. The values next to r have the bit patterns next to r's.
-- 2 * l and 2 * h are counted in smallest values, and 4 * x in squares of the smallest value.
unfoldable pub Nearest : Format → Float → Float → Type 0
Nearest f x r =
    let l = count f (from_bits f (to_bits f r - 1)) + count f r in
    let h = count f r + count f (from_bits f (to_bits f r + 1)) in
    T (fits f r) × T (is_usable r) × (l * l < 4 * (count f x * 2 ^ low f)) × (4 * (count f x * 2 ^ low f) < h * h)
