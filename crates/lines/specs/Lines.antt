-- The lines that a square root is guessed from. Definitions only.
use Rattle.std.specs.Prelude.{cond, ℕ, zero, suc, ◌+◌, ◌-◌, ◌*◌, ◌/◌, ◌%◌, ◌^◌, leb}

-- The whole part of the square root of an n below 4 ^ d: twice the root of n / 4, or one more where the square of that is still at most n.
unfoldable pub whole_root : ℕ → ℕ → ℕ
whole_root zero n = 0
whole_root (suc d) n = let r = 2 * whole_root d (n / 4) in cond (leb ((r + 1) * (r + 1)) n) (r + 1) r

-- a / b to the nearest whole number
abbrev pub quotient : ℕ → ℕ → ℕ
quotient a b = (2 * a + b) / (2 * b)

-- The line near √y on interval i, as `line` of src/inner.rt writes it. It meets √y at Chebyshev's points of the interval,
-- u and v, which are the middle ± 1/√8 of the length.
-- So its slope is 1 / (√u + √v), and at the lower end, l, its height is (l + √(u * v)) / (√u + √v).
-- A length is o / 128; l, the middle m and w, which is √(u * v), are counted in lengths * 2 ^ -42, and s, which is √u + √v, in 2 ^ -40.
unfoldable pub line_of : ℕ → ℕ
unfolding whole_root
line_of i =
    let o = 2 ^ (i / 128) in
    let l = (128 + i % 128) * 2 ^ 42 in
    let m = l + 2 ^ 41 in
    let w = whole_root 50 (m * m - 2 ^ 81) in
    let s = whole_root 50 (o * (m + w) * 2 ^ 32) in
    (quotient (o * (l + w) * 2 ^ 19) s - 2 ^ 28) * 2 ^ 24 + quotient (o * 2 ^ 56) s
