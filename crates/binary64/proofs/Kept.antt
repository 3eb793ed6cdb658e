-- The results of the crate's functions are values of the format. Those of +, -, *, / and negation are by `lib.Ieee.Fits`. Assumes nothing.
use Rattle.std.proofs.Common.{ℕ, zero, suc, ◌+◌, ◌-◌, ◌*◌, ◌/◌, ◌^◌, ◌<◌, ◌≤◌, Bool, true, false, cond, T, ltb, le_trans, lt_of_le_of_lt, arith, ltb→lt}
use Prim.Native.Nat.{compare}
use lib.Pow.{pow-lt}
use lib.Ieee.{Float, nan, inf, fin, Format, prec, emax, low, up, down, size, nearest, odd, units, lt, is_nan, fits}
use lib.Ieee.Fits.{odd-fits, nearest-le, kept-lt, cond-fits, nan-fits, inf-fits}
use Rattle.binary64.specs.Numbers.{magnitude, larger}
use Rattle.lines.specs.Lines.{whole_root}
use Rattle.binary64.specs.Root.{nearest_root, root_in}

pub magnitude_fits : (f : Format) (x : Float) → T (fits f x) → T (fits f (magnitude x))
unfolding magnitude fits
magnitude_fits f nan F = F
magnitude_fits f (inf s) F = F
magnitude_fits f (fin s zero e) F = F
magnitude_fits f (fin s (suc m) e) F = F

pub larger_fits : (f : Format) (a b : Float) → T (fits f a) → T (fits f b) → T (fits f (larger a b))
unfolding larger
larger_fits f a b F G = cond-fits f (is_nan a) b (cond (lt a b) b a) G (cond-fits f (lt a b) b a G F)

made_fits : (f : Format) (q k : ℕ) → q ≤ 2 ^ prec f → T (fits f (units f false q k))
unfolding units
made_fits f q k h = go (ltb (q * 2 ^ k) (2 ^ (low f + suc (emax f)))) (ltb→lt (q * 2 ^ k) (2 ^ (low f + suc (emax f))))
  where
    go : (b : Bool) → (T b → q * 2 ^ k < 2 ^ (low f + suc (emax f))) → T (fits f (cond b (odd (suc (prec f)) false q k (low f)) (inf false)))
    go true l = odd-fits f (suc (prec f)) false q k (lt_of_le_of_lt h (pow-lt (lt_suc (prec f)))) h (l tt)
      where
        lt_suc : (n : ℕ) → n < suc n
        lt_suc n = omega arith
    go false l = inf-fits f false

nearest_root_fits : (f : Format) (w : ℕ) → T (fits f (nearest_root f w))
unfolding nearest_root
nearest_root_fits f w =
    let s = whole_root (size w) w in
    let k = size s - prec f in
    let q = s / 2 ^ k in
    let o = compare (4 * w) ((2 * q + 1) * 2 ^ k * ((2 * q + 1) * 2 ^ k)) in
    made_fits f (nearest q o) k (le_trans (nearest-le q o) (kept-lt (prec f) s))

pub root_fits : (f : Format) (x : Float) → T (fits f x) → T (fits f (root_in f x))
unfolding root_in fits
root_fits f nan F = nan-fits f
root_fits f (inf s) F = cond-fits f s nan (inf s) (nan-fits f) (inf-fits f s)
root_fits f (fin s zero e) F = F
root_fits f (fin true (suc m) e) F = nan-fits f
root_fits f (fin false (suc m) e) F = nearest_root_fits f (suc m * up e * 2 ^ low f * 2 ^ low f / down e)
