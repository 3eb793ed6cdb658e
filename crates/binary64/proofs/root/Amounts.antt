-- The whole numbers behind the test that settles a root (`Settled.antt`): how far y - g * g is from what is left of it after rounding. Assumes nothing.
use Rattle.std.proofs.Common.{◌≡◌, ℕ, ◌+◌, ◌*◌, ◌^◌, ◌<◌, ◌≤◌, Bool, true, false, cond, not, sym, ap, ◌∙◌, inl, inr, le_trans, le_of_eq, lt_of_lt_of_le, lt_of_le_of_lt, mul-le-mul_right, mul_assoc, mul_comm, arith, lit≤}
use native.Mathlib.Nat.{mul-mul-mul_comm}
use Rattle.binary64.proofs.Rounded.{Off}
use Rattle.binary64.proofs.Grid.{under_or_from}
use Rattle.binary64.proofs.root.Squares.{square_lt}

-- y is A, s * s is Q, and g * g is GG, all times U; D is how far y is from s * s, and g_d that rounded; CW is how far g * g is from s * s, N the
-- product for it, and g_p that rounded; R is what is left, g_d less g_p; SU and GU are s and g times U, and CU is how far they are apart.

-- g is within e of n
abbrev pub Within : ℕ → ℕ → ℕ → Type 0
Within g n e = (g ≤ n + e) × (n ≤ g + e)

off_at : (U g n k m : ℕ) → Off (2 ^ 53) g n → n ≤ m * U → m ≤ 2 ^ 53 * k → Within g n (k * U)
off_at U g n k m o l r =
    let s : m * U ≤ k * U * 2 ^ 53 = le_trans (mul-le-mul_right U r) (le_of_eq (mul_assoc (2 ^ 53) k U ∙ mul_comm (2 ^ 53) (k * U))) in
    (above (m * U) (k * U) o.over l s, below (m * U) (k * U) o.under l s)
  where
    above : (x z : ℕ) → g * 2 ^ 53 ≤ n * 2 ^ 53 + n → n ≤ x → x ≤ z * 2 ^ 53 → g ≤ n + z
    above x z h i j = omega (arith, h, i, j)

    below : (x z : ℕ) → n * 2 ^ 53 ≤ g * 2 ^ 53 + n → n ≤ x → x ≤ z * 2 ^ 53 → n ≤ g + z
    below x z h i j = omega (arith, h, i, j)

twice : (g n : ℕ) → n * 2 ^ 53 ≤ g * 2 ^ 53 + n → n ≤ g + g
twice g n h = omega (arith, h)

N_most : (U N CU CW : ℕ) → N ≤ CW + CU → CW ≤ 2 ^ 54 * CU → CU ≤ 2 ^ 38 * U → N ≤ (2 ^ 92 + 2 ^ 39) * U
N_most U N CU CW i j k = omega (arith, i, j, k)

R_most : (U R SU : ℕ) → 1024 * R ≤ 1023 * SU + 2048 * U → SU ≤ 2 ^ 53 * U → R ≤ 2 ^ 54 * U
R_most U R SU i j = omega (arith, i, j)

D_most : (U D g_d g_p N R : ℕ) → D ≤ g_d + g_d → g_d ≤ g_p + R → g_p ≤ N + 2 ^ 40 * U → N ≤ (2 ^ 92 + 2 ^ 39) * U → R ≤ 2 ^ 54 * U → D ≤ 2 ^ 94 * U
D_most U D g_d g_p N R h i j k l =
    le_trans (middle (2 ^ 92 * U) (2 ^ 40 * U) (2 ^ 39 * U) (2 ^ 54 * U) (le_trans k (le_of_eq (spread (2 ^ 92) (2 ^ 39)))) j l (small U)) (sums U)
  where
    sums : (u : ℕ) → 2 * (2 ^ 92 * u + 2 * (2 ^ 54 * u)) ≤ 2 ^ 94 * u
    sums u = omega arith

    spread : (x y : ℕ) → (x + y) * U ≡ x * U + y * U
    spread x y = omega arith

    small : (u : ℕ) → 2 ^ 39 * u + 2 ^ 40 * u ≤ 2 ^ 54 * u
    small u = omega arith

    middle : (w x y z : ℕ) → N ≤ w + y → g_p ≤ N + x → R ≤ z → y + x ≤ z → D ≤ 2 * (w + 2 * z)
    middle w x y z a b c d = omega (arith, a, b, c, d, h, i)

-- the whole error: what is left of R, and the roundings
abbrev pub Sides : (A GG GU : ℕ) → Type 0
Sides A GG GU = (GG < A + GU) × (A ≤ GG + GU)

-- g is above s by C, and y is above s * s by D
same_sides : (U A Q D g_d N g_p R CU CW GU SU GG : ℕ) → Within g_d D (2 ^ 41 * U) → Within g_p N (2 ^ 40 * U) → Within N CW CU → CU ≤ 2 ^ 38 * U
    → 2 ^ 52 * U ≤ SU → 1024 * R ≤ 1023 * SU + 2048 * U → 0 < U
    → g_d ≤ g_p + R → g_p ≤ g_d + R → GU ≡ SU + CU → GG ≡ Q + CW → D + Q ≡ A → Sides A GG GU
same_sides U A Q D g_d N g_p R CU CW GU SU GG (d, d') (p, p') (n, n') c s r u l m i j k =
    (omega (arith, d, p, n, c, s, r, u, m, i, j, k, d', p', n'), omega (arith, d, p, n, c, s, r, u, l, i, j, k, d', p', n'))

-- g is below s by C, and y is below s * s by D
other_sides : (U A Q D g_d N g_p R CU CW GU SU GG : ℕ) → Within g_d D (2 ^ 41 * U) → Within g_p N (2 ^ 40 * U) → Within N CW CU → CU ≤ 2 ^ 38 * U
    → 2 ^ 52 * U ≤ SU → 1024 * R ≤ 1023 * SU + 2048 * U → 0 < U
    → g_d ≤ g_p + R → g_p ≤ g_d + R → SU ≡ GU + CU → Q ≡ GG + CW → Q ≡ D + A → Sides A GG GU
other_sides U A Q D g_d N g_p R CU CW GU SU GG (d, d') (p, p') (n, n') c s r u l m i j k =
    (omega (arith, d, p, n, c, s, r, u, m, l, i, j, k, d', p', n'), omega (arith, d, p, n, c, s, r, u, l, m, i, j, k, d', p', n'))

-- g is above s, and y is below s * s, or the other way about
split_sides : (U A Q D g_d N g_p R CU CW GU SU GG : ℕ) → Within g_d D (2 ^ 41 * U) → Within g_p N (2 ^ 40 * U) → Within N CW CU → CU ≤ 2 ^ 38 * U
    → 2 ^ 52 * U ≤ SU → 1024 * R ≤ 1023 * SU + 2048 * U → 0 < U
    → g_d + g_p ≤ R → SU ≤ GU + CU → (GG ≤ A + D + CW) × (A ≤ GG + D + CW) → Sides A GG GU
split_sides U A Q D g_d N g_p R CU CW GU SU GG (d, d') (p, p') (n, n') c s r u l i (j, k) =
    (omega (arith, d', p', n', c, s, r, u, l, i, j), omega (arith, d', p', n', c, s, r, u, l, i, k))

-- what is left of the rounded difference and the rounded product, by their signs
abbrev pub Left : Bool → Bool → Bool → ℕ → ℕ → ℕ → Type 0
Left rd rc rr g_d g_p R = cond rr 0 R + (cond rd g_d 0 + cond (not rc) g_p 0) ≡ cond rr R 0 + (cond rd 0 g_d + cond (not rc) 0 g_p)

pub triangle : (rd rc rr : Bool) (g_d g_p R : ℕ) → Left rd rc rr g_d g_p R → g_d ≤ g_p + R
triangle true true true g_d g_p R e = omega (arith, e)
triangle true true false g_d g_p R e = omega (arith, e)
triangle true false true g_d g_p R e = omega (arith, e)
triangle true false false g_d g_p R e = omega (arith, e)
triangle false true true g_d g_p R e = omega (arith, e)
triangle false true false g_d g_p R e = omega (arith, e)
triangle false false true g_d g_p R e = omega (arith, e)
triangle false false false g_d g_p R e = omega (arith, e)

pub sides : (U A Q D g_d N g_p R CU CW GU SU GG : ℕ) (rd rc rr : Bool) → Within g_d D (2 ^ 41 * U) → Within g_p N (2 ^ 40 * U) → Within N CW CU
    → CU ≤ 2 ^ 38 * U → 2 ^ 52 * U ≤ SU → 1024 * R ≤ 1023 * SU + 2048 * U → 0 < U
    → cond rd 0 D + (0 + Q) ≡ cond rd D 0 + (A + 0) → cond rc (SU ≡ GU + CU) (GU ≡ SU + CU) → cond rc (Q ≡ GG + CW) (GG ≡ Q + CW) → Left rd rc rr g_d g_p R
    → Sides A GG GU
sides U A Q D g_d N g_p R CU CW GU SU GG false false true d p n c s r u i j k l =
    same_sides U A Q D g_d N g_p R CU CW GU SU GG d p n c s r u (omega (arith, l)) (omega (arith, l)) j k (omega (arith, i))
sides U A Q D g_d N g_p R CU CW GU SU GG false false false d p n c s r u i j k l =
    same_sides U A Q D g_d N g_p R CU CW GU SU GG d p n c s r u (omega (arith, l)) (omega (arith, l)) j k (omega (arith, i))
sides U A Q D g_d N g_p R CU CW GU SU GG true true true d p n c s r u i j k l =
    other_sides U A Q D g_d N g_p R CU CW GU SU GG d p n c s r u (omega (arith, l)) (omega (arith, l)) j k (omega (arith, i))
sides U A Q D g_d N g_p R CU CW GU SU GG true true false d p n c s r u i j k l =
    other_sides U A Q D g_d N g_p R CU CW GU SU GG d p n c s r u (omega (arith, l)) (omega (arith, l)) j k (omega (arith, i))
sides U A Q D g_d N g_p R CU CW GU SU GG true false true d p n c s r u i j k l =
    split_sides U A Q D g_d N g_p R CU CW GU SU GG d p n c s r u (omega (arith, l)) (omega (arith, j)) (omega (arith, i, k), omega (arith, i, k))
sides U A Q D g_d N g_p R CU CW GU SU GG true false false d p n c s r u i j k l =
    split_sides U A Q D g_d N g_p R CU CW GU SU GG d p n c s r u (omega (arith, l)) (omega (arith, j)) (omega (arith, i, k), omega (arith, i, k))
sides U A Q D g_d N g_p R CU CW GU SU GG false true true d p n c s r u i j k l =
    split_sides U A Q D g_d N g_p R CU CW GU SU GG d p n c s r u (omega (arith, l)) (omega (arith, j)) (omega (arith, i, k), omega (arith, i, k))
sides U A Q D g_d N g_p R CU CW GU SU GG false true false d p n c s r u i j k l =
    split_sides U A Q D g_d N g_p R CU CW GU SU GG d p n c s r u (omega (arith, l)) (omega (arith, j)) (omega (arith, i, k), omega (arith, i, k))

-- ---- squares that are in order up to a digit

at_most : (X Z : ℕ) → X * 2 ^ 53 ≤ 255 * Z * 2 ^ 53 + 255 * Z + X → X ≤ 512 * Z
at_most X Z h = omega (arith, h)

nearly : (X Z : ℕ) → X * 2 ^ 53 ≤ 255 * Z * 2 ^ 53 + 255 * Z + X → X ≤ 512 * Z → X * 1024 ≤ (255 * 1024 + 1) * Z
nearly X Z h m = omega (arith, h, m)

clash : (X Z : ℕ) → X * 1024 ≤ (255 * 1024 + 1) * Z → 1023 * 1023 * (256 * Z) < 1024 * 1024 * X → ⊥
clash X Z h l = omega (arith, h, l)

-- a * a is X and b * b is 256 * Z: where X is at most 255 * Z up to rounding, a is below b by more than a part in 1024
pub under_square : (a b X Z : ℕ) → a * a ≡ X → b * b ≡ 256 * Z → X * 2 ^ 53 ≤ 255 * Z * 2 ^ 53 + 255 * Z + X → 1024 * a ≤ 1023 * b
under_square a b X Z e f h =
    elim (under_or_from (1023 * b) (1024 * a)) [
      | inl l ↦
          absurd
          (clash X Z (nearly X Z h (at_most X Z h))
          (lt_of_le_of_lt (le_of_eq (ap (λ (x : ℕ). 1023 * 1023 * x) (sym f) ∙ sym (mul-mul-mul_comm 1023 b 1023 b)))
          (lt_of_lt_of_le (square_lt (1023 * b) (1024 * a) l) (le_of_eq (mul-mul-mul_comm 1024 a 1024 a ∙ ap (λ (x : ℕ). 1024 * 1024 * x) e)))))
      | inr k ↦ k
    ]

nearer : (U R r : ℕ) → R * 2 ^ 53 ≤ r * 2 ^ 53 + R → R ≤ 2 ^ 54 * U → R ≤ r + 2 * U
nearer U R r i j = omega (arith, i, j)

-- the exact rest, by the rounded one
pub rest_of : (U R r SU : ℕ) → Off (2 ^ 53) r R → 1024 * r ≤ 1023 * SU → SU ≤ 2 ^ 53 * U → 1024 * R ≤ 1023 * SU + 2048 * U
rest_of U R r SU o h m = last (close o.under (most (twice r R o.under) (small h m)))
  where
    small : 1024 * r ≤ 1023 * SU → SU ≤ 2 ^ 53 * U → r ≤ 2 ^ 53 * U
    small i j = omega (arith, i, j)

    most : R ≤ r + r → r ≤ 2 ^ 53 * U → R ≤ 2 ^ 54 * U
    most i j = omega (arith, i, j)

    close : R * 2 ^ 53 ≤ r * 2 ^ 53 + R → R ≤ 2 ^ 54 * U → R ≤ r + 2 * U
    close = nearer U R r

    last : R ≤ r + 2 * U → 1024 * R ≤ 1023 * SU + 2048 * U
    last i = omega (arith, i, h)

pub rest_small : (U R SU : ℕ) → R < 2 ^ 30 * U → 2 ^ 52 * U ≤ SU → 1024 * R ≤ 1023 * SU + 2048 * U
rest_small U R SU h m = omega (arith, h, m)

-- ---- the whole of it

pub near_sides : (U A Q D g_d N g_p R CU CW GU SU GG : ℕ) (rd rc rr : Bool) → Off (2 ^ 53) g_d D → Off (2 ^ 53) g_p N → Within N CW CU → CW ≤ 2 ^ 54 * CU
    → CU ≤ 2 ^ 38 * U → 2 ^ 52 * U ≤ SU → SU ≤ 2 ^ 53 * U
    → 1024 * R ≤ 1023 * SU + 2048 * U → 0 < U → cond rd 0 D + (0 + Q) ≡ cond rd D 0 + (A + 0) → cond rc (SU ≡ GU + CU) (GU ≡ SU + CU)
    → cond rc (Q ≡ GG + CW) (GG ≡ Q + CW) → Left rd rc rr g_d g_p R → Sides A GG GU
near_sides U A Q D g_d N g_p R CU CW GU SU GG rd rc rr d p n w c s m r u i j k l =
    let most = N_most U N CU CW n.0 w c in
    let p' = off_at U g_p N (2 ^ 40) (2 ^ 92 + 2 ^ 39) p most (lit≤ tt) in
    let d' = off_at U g_d D (2 ^ 41) (2 ^ 94) d (D_most U D g_d g_p N R (twice g_d D d.under) (triangle rd rc rr g_d g_p R l) p'.0 most (R_most U R SU r m))
    (lit≤ tt) in
    sides U A Q D g_d N g_p R CU CW GU SU GG rd rc rr d' p' n c s r u i j k l
