-- `root` gives the nearest value: it is above zero, and the root of x is between the middles around it,
-- for every x that is finite and above zero. Assumes nothing.
use Rattle.std.proofs.Common.{◌≡◌, ℕ, zero, suc, ◌+◌, ◌-◌, ◌*◌, ◌/◌, ◌%◌, ◌^◌, ◌<◌, ◌≤◌, false, T, ◌⊎◌, sym, ap, ◌∙◌, subst, inl, inr, le_trans, le_of_eq, lt_of_lt_of_le, lt_of_le_of_lt, mul-le-mul_right, mul_assoc, mul_comm, add-mul, eq-or-lt_of_le, mul-le-mul_left, mul-lt-mul_of_pos_right, mul-pos, lt_of_not-le, add-one, arith, lit≤, pow_pos}
use native.Mathlib.Nat.{mul-mul-mul_comm}
use lib.Count.{count_leading_zeros}
use lib.Ieee.{Float, binary64, odd, size, fits, of_bits, to_bits}
use lib.Ieee.Bits.{of_bits-to_bits}
use lib.Ieee.Exact.{odd_sign}
use native.Mathlib.Decide.{dec_le}
use Rattle.binary64.specs.Numbers.{is_usable}
use Rattle.lines.specs.Lines.{whole_root}
use Rattle.binary64.specs.Root.{nearest_root, root, Nearest}
use Rattle.binary64.specs.Significand.{Near}
use Rattle.binary64.specs.Units.{count}
use Rattle.binary64.proofs.Value.{count_of}
use Rattle.binary64.proofs.Kept.{root_fits}
use Rattle.binary64.proofs.root.Squares.{next_square, square_lt, power, halve}
use Rattle.binary64.proofs.root.Rounding.{root_law, near_low, near_high, nearest_root_near, of_bits-at, to_bits_odd, double_square, doubled, regroup}
use Rattle.binary64.proofs.root.Patterns.{usable_bits, Positive, root_of, usable_of, normal_is, subnormal_is, shift_of}

count_odd : (h k : ℕ) → count binary64 (odd 54 false h k 1074) ≡ h * 2 ^ k
count_odd h k = count_of binary64 (odd 54 false h k 1074) false (h * 2 ^ k) (odd_sign 54 false h k 1074)

count_at : (h k : ℕ) → 2 ^ 52 ≤ h → h < 2 ^ 53 → k ≤ 2045 → count binary64 (of_bits binary64 (k * 2 ^ 52 + h)) ≡ h * 2 ^ k
count_at h k lo hi kl = ap (count binary64) (of_bits-at h k lo hi kl) ∙ count_odd h k

-- ---- the values next to h * 2 ^ k

next_up : (h k : ℕ) → 2 ^ 52 ≤ h → h < 2 ^ 53 → k ≤ 2044 → count binary64 (of_bits binary64 (k * 2 ^ 52 + h + 1)) ≡ (h + 1) * 2 ^ k
next_up h k lo hi kl = go (eq-or-lt_of_le hi)
  where
    along : k * 2 ^ 52 + h + 1 ≡ k * 2 ^ 52 + (h + 1)
    along = omega arith

    over : suc h ≡ 2 ^ 53 → k * 2 ^ 52 + h + 1 ≡ (k + 1) * 2 ^ 52 + 2 ^ 52
    over e = omega arith

    full : suc h ≡ 2 ^ 53 → 2 ^ 52 * 2 ≡ h + 1
    full e = omega arith

    go : (suc h ≡ 2 ^ 53) ⊎ (suc h < 2 ^ 53) → count binary64 (of_bits binary64 (k * 2 ^ 52 + h + 1)) ≡ (h + 1) * 2 ^ k
    go (inl e) =
        ap (λ (n : ℕ). count binary64 (of_bits binary64 n)) (over e)
        ∙ count_at (2 ^ 52) (k + 1) (lit≤ tt) (lit≤ tt) (omega arith)
        ∙ ap (λ (n : ℕ). 2 ^ 52 * n) (power 2 k ∙ mul_comm (2 ^ k) 2)
        ∙ sym (mul_assoc (2 ^ 52) 2 (2 ^ k))
        ∙ ap (λ (n : ℕ). n * 2 ^ k) (full e)
    go (inr l) = ap (λ (n : ℕ). count binary64 (of_bits binary64 n)) along ∙ count_at (h + 1) k (omega arith) (omega arith) (omega arith)

-- ---- the two middles

upper : (M h k : ℕ) → M ≤ h * h + h → 4 * (M * (2 ^ k * 2 ^ k)) < (h * 2 ^ k + (h + 1) * 2 ^ k) * (h * 2 ^ k + (h + 1) * 2 ^ k)
upper M h k u =
    let P = 2 ^ k in
    let s : h * P + (h + 1) * P ≡ (2 * h + 1) * P = sym (add-mul h (h + 1) P) ∙ ap (λ (n : ℕ). n * P) (twice h) in
    lt_of_le_of_lt (le_of_eq (sym (mul_assoc 4 M (P * P))))
    (lt_of_lt_of_le (mul-lt-mul_of_pos_right (less (h * h) u) (mul-pos (pow_pos k) (pow_pos k)))
    (le_of_eq (sym (double_square h P) ∙ ap (λ (n : ℕ). n * n) (sym s))))
  where
    twice : (n : ℕ) → n + (n + 1) ≡ 2 * n + 1
    twice n = omega arith

    less : (s : ℕ) → M ≤ s + h → 4 * M < s * 4 + h * 4 + 1
    less s l = omega arith

-- h is above the least number of 53 digits, and the value below it is as far as the value above it
lower : (M g k : ℕ) → suc g * suc g < M + suc g → (g * 2 ^ k + suc g * 2 ^ k) * (g * 2 ^ k + suc g * 2 ^ k) < 4 * (M * (2 ^ k * 2 ^ k))
lower M g k u =
    let P = 2 ^ k in
    let s : g * P + suc g * P ≡ (2 * g + 1) * P = sym (add-mul g (suc g) P) ∙ ap (λ (n : ℕ). n * P) (twice g) in
    let n : suc g * suc g ≡ g * g + g * 2 + 1 = ap (λ (x : ℕ). x * x) (sym (add-one g)) ∙ next_square g in
    lt_of_le_of_lt (le_of_eq (ap (λ (x : ℕ). x * x) s ∙ double_square g P))
    (lt_of_lt_of_le (mul-lt-mul_of_pos_right (less (g * g) (suc g * suc g) n u) (mul-pos (pow_pos k) (pow_pos k))) (le_of_eq (mul_assoc 4 M (P * P))))
  where
    twice : (n : ℕ) → n + suc n ≡ 2 * n + 1
    twice n = omega arith

    less : (s t : ℕ) → t ≡ s + g * 2 + 1 → t < M + suc g → s * 4 + g * 4 + 1 < 4 * M
    less s t e l = omega arith

-- h is that least number, and the value below it is half as far
lowest : (M k : ℕ) → 2 ^ 104 ≤ M
    → ((2 ^ 53 - 1) * 2 ^ k + 2 ^ 52 * 2 ^ (k + 1)) * ((2 ^ 53 - 1) * 2 ^ k + 2 ^ 52 * 2 ^ (k + 1)) < 4 * (M * (2 ^ (k + 1) * 2 ^ (k + 1)))
lowest M k m =
    let P = 2 ^ (k + 1) in
    let l : (2 ^ 53 - 1) * 2 ^ k + 2 ^ 52 * P < 2 ^ 53 * P = less (2 ^ k) P (power 2 k) (pow_pos k) in
    lt_of_lt_of_le (square_lt ((2 ^ 53 - 1) * 2 ^ k + 2 ^ 52 * P) (2 ^ 53 * P) l)
    (le_trans (le_of_eq (mul-mul-mul_comm (2 ^ 53) P (2 ^ 53) P))
    (le_trans (mul-le-mul_right (P * P) (mul-le-mul_left 4 m)) (le_of_eq (mul_assoc 4 M (P * P)))))
  where
    less : (r p : ℕ) → p ≡ r * 2 → 0 < r → (2 ^ 53 - 1) * r + 2 ^ 52 * p < 2 ^ 53 * p
    less r p e h = omega arith

-- the lower middle, by the value below h * 2 ^ k
lower_middle : (M h k : ℕ) → 2 ^ 104 ≤ M → 2 ^ 52 ≤ h → h < 2 ^ 53 → 1 ≤ k → k ≤ 2044 → h * h < M + h
    → (count binary64 (of_bits binary64 (k * 2 ^ 52 + h - 1)) + h * 2 ^ k) * (count binary64 (of_bits binary64 (k * 2 ^ 52 + h - 1)) + h * 2 ^ k) < 4 *
    (M * (2 ^ k * 2 ^ k))
lower_middle M zero k m lo hi k1 kl u = absurd (no lo)
  where
    no : 2 ^ 52 ≤ 0 → ⊥
    no g = omega arith
lower_middle M (suc g) zero m lo hi k1 kl u = absurd (no k1)
  where
    no : 1 ≤ 0 → ⊥
    no j = omega arith
lower_middle M (suc g) (suc j) m lo hi k1 kl u = go (eq-or-lt_of_le lo)
  where
    along : suc j * 2 ^ 52 + suc g - 1 ≡ suc j * 2 ^ 52 + g
    along = omega arith

    under : 2 ^ 52 ≡ suc g → suc j * 2 ^ 52 + suc g - 1 ≡ j * 2 ^ 52 + (2 ^ 53 - 1)
    under e = omega arith

    go : (2 ^ 52 ≡ suc g) ⊎ (2 ^ 52 < suc g)
        → (count binary64 (of_bits binary64 (suc j * 2 ^ 52 + suc g - 1)) + suc g * 2 ^ suc j) *
        (count binary64 (of_bits binary64 (suc j * 2 ^ 52 + suc g - 1)) + suc g * 2 ^ suc j)
        < 4 * (M * (2 ^ suc j * 2 ^ suc j))
    go (inl e) =
        let c : count binary64 (of_bits binary64 (suc j * 2 ^ 52 + suc g - 1)) ≡ (2 ^ 53 - 1) * 2 ^ j =
        ap (λ (n : ℕ). count binary64 (of_bits binary64 n)) (under e) ∙ count_at (2 ^ 53 - 1) j (lit≤ tt) (lit≤ tt) (omega arith) in
        subst (λ (x : ℕ). (x + suc g * 2 ^ suc j) * (x + suc g * 2 ^ suc j) < 4 * (M * (2 ^ suc j * 2 ^ suc j))) (sym c)
        (subst (λ (x : ℕ). ((2 ^ 53 - 1) * 2 ^ j + x * 2 ^ suc j) * ((2 ^ 53 - 1) * 2 ^ j + x * 2 ^ suc j) < 4 * (M * (2 ^ suc j * 2 ^ suc j))) e
        (subst (λ (i : ℕ). ((2 ^ 53 - 1) * 2 ^ j + 2 ^ 52 * 2 ^ i) * ((2 ^ 53 - 1) * 2 ^ j + 2 ^ 52 * 2 ^ i) < 4 * (M * (2 ^ i * 2 ^ i))) (add-one j)
        (lowest M j m)))
    go (inr l) =
        let c : count binary64 (of_bits binary64 (suc j * 2 ^ 52 + suc g - 1)) ≡ g * 2 ^ suc j =
        ap (λ (n : ℕ). count binary64 (of_bits binary64 n)) along ∙ count_at g (suc j) (omega arith) (omega arith) (omega arith) in
        subst (λ (x : ℕ). (x + suc g * 2 ^ suc j) * (x + suc g * 2 ^ suc j) < 4 * (M * (2 ^ suc j * 2 ^ suc j))) (sym c) (lower M g (suc j) u)

-- ---- for every a there is such an h

nearest_to : (a : ℕ) → 0 < a → (h : ℕ) × Near a h
nearest_to a p =
    let q = whole_root (size (a * 2 ^ 54)) (a * 2 ^ 54) in
    let l = root_law (a * 2 ^ 54) in
    ((q + 1) / 2, halve a q p l.0 (under (a * 2 ^ 54) q l.1))
  where
    under : (n q : ℕ) → n < (q + 1) * (q + 1) → n ≤ q * q + q * 2
    under n q h = let s = next_square q in omega arith

Between : ℕ → Float → Type 0
Between w r =
    let l = count binary64 (of_bits binary64 (to_bits binary64 r - 1)) + count binary64 r in
    let h = count binary64 r + count binary64 (of_bits binary64 (to_bits binary64 r + 1)) in
    T (is_usable r) × (l * l < 4 * w) × (4 * w < h * h)

between_at : (a h k : ℕ) → 2 ^ 52 ≤ a → a + 2 ≤ 2 ^ 54 → 1 ≤ k → k ≤ 2044 → Near a h → Between (a * 2 ^ 52 * (2 ^ k * 2 ^ k)) (odd 54 false h k 1074)
unfolding Between
between_at a h k lo hi k1 kl n =
    let hl = near_low a h lo n in
    let hh = near_high a h hi n in
    let M = a * 2 ^ 52 in
    let w = M * (2 ^ k * 2 ^ k) in
    let b : to_bits binary64 (odd 54 false h k 1074) ≡ k * 2 ^ 52 + h = to_bits_odd h k hl hh in
    let c : count binary64 (odd 54 false h k 1074) ≡ h * 2 ^ k = count_odd h k in (
      usable_of (odd 54 false h k 1074) (h * 2 ^ k) (mul-pos (lt_of_lt_of_le (pow_pos 52) hl) (pow_pos k)) (odd_sign 54 false h k 1074),
      subst (λ (y : ℕ). (count binary64 (of_bits binary64 (y - 1)) + count binary64 (odd 54 false h k 1074)) *
          (count binary64 (of_bits binary64 (y - 1)) + count binary64 (odd 54 false h k 1074)) < 4 * w) (sym b)
          (subst (λ (y : ℕ). (count binary64 (of_bits binary64 (k * 2 ^ 52 + h - 1)) + y) *
          (count binary64 (of_bits binary64 (k * 2 ^ 52 + h - 1)) + y) < 4 * w) (sym c)
          (lower_middle M h k (omega arith) hl hh k1 kl n.above)),
      subst (λ (y : ℕ). 4 * w < (count binary64 (odd 54 false h k 1074) + count binary64 (of_bits binary64 (y + 1))) *
          (count binary64 (odd 54 false h k 1074) + count binary64 (of_bits binary64 (y + 1)))) (sym b)
          (subst (λ (y : ℕ). 4 * w < (y + count binary64 (of_bits binary64 (k * 2 ^ 52 + h + 1))) *
          (y + count binary64 (of_bits binary64 (k * 2 ^ 52 + h + 1)))) (sym c)
          (subst (λ (y : ℕ). 4 * w < (h * 2 ^ k + y) * (h * 2 ^ k + y)) (sym (next_up h k hl hh kl)) (upper M h k n.under))),
    )

between : (a e : ℕ) → 2 ^ 52 ≤ a → a < 2 ^ 53 → 1022 ≤ e → e < 3120 → Between (a * 2 ^ e) (nearest_root binary64 (a * 2 ^ e))
between a e la ha le he =
    let o = e % 2 in
    let k = (e - 52) / 2 in
    let once : o * a ≤ 1 * a = mul-le-mul_right a (omega arith) in
    let top : a + o * a + 2 ≤ 2 ^ 54 = omega arith in
    let bottom : 2 ^ 52 ≤ a + o * a = omega arith in
    let k1 : 1 ≤ k = omega arith in
    let kl : k ≤ 2044 = omega arith in
    let kl' : k ≤ 2045 = omega arith in
    let parts : o + 52 + (k + k) ≡ e = omega arith in
    let n = nearest_to (a + o * a) (omega arith) in
    let w : (a + o * a) * 2 ^ 52 * (2 ^ k * 2 ^ k) ≡ a * 2 ^ e = ap (λ (x : ℕ). x * 2 ^ 52 * (2 ^ k * 2 ^ k)) (doubled a o (omega arith))
    ∙ regroup a o k e parts in
    subst (λ (x : ℕ). Between x (nearest_root binary64 x)) w
    (subst (λ (r : Float). Between ((a + o * a) * 2 ^ 52 * (2 ^ k * 2 ^ k)) r) (sym (nearest_root_near (a + o * a) n.0 k bottom top kl' n.1))
    (between_at (a + o * a) n.0 k bottom top k1 kl n.1))

-- ---- the law

of_positive : (x : Float) (w : ℕ) → Positive x w → Between w (nearest_root binary64 w) → Between (count binary64 x * 2 ^ 1074) (root x)
of_positive x w p b =
    let c : count binary64 x * 2 ^ 1074 ≡ w = ap (λ (n : ℕ). n * 2 ^ 1074) (count_of binary64 x false p.a p.value) ∙ p.squares in
    subst (λ (n : ℕ). Between n (root x)) (sym c) (subst (λ (r : Float). Between w r) (sym (root_of x w p)) b)

-- the patterns above 0 and below the infinity's are those of the finite values above zero
of_pattern : (b : ℕ) → 0 < b → b < 0x7ff0_0000_0000_0000 → Between (count binary64 (of_bits binary64 b) * 2 ^ 1074) (root (of_bits binary64 b))
of_pattern b lo hi = go (lt_or_le b)
  where
    lt_or_le : (n : ℕ) → (n < 2 ^ 52) ⊎ (2 ^ 52 ≤ n)
    lt_or_le n = split (dec_le (2 ^ 52) n)
      where
        split : Dec (2 ^ 52 ≤ n) → (n < 2 ^ 52) ⊎ (2 ^ 52 ≤ n)
        split (yes h) = inr h
        split (no f) = inl (lt_of_not-le f)

    go : (b < 2 ^ 52) ⊎ (2 ^ 52 ≤ b) → Between (count binary64 (of_bits binary64 b) * 2 ^ 1074) (root (of_bits binary64 b))
    go (inl l) =
        let s = shift_of b lo l in
        let z = count_leading_zeros 64 b - 11 in
        of_positive (of_bits binary64 b) (b * 2 ^ z * 2 ^ (1074 - z)) (subnormal_is b z lo l (omega arith))
        (between (b * 2 ^ z) (1074 - z) s.2 s.3 (omega arith) (omega arith))
    go (inr l) =
        of_positive (of_bits binary64 b) ((b % 2 ^ 52 + 2 ^ 52) * 2 ^ (b / 2 ^ 52 + 1073)) (normal_is b l hi)
        (between (b % 2 ^ 52 + 2 ^ 52) (b / 2 ^ 52 + 1073) (omega arith) (omega arith) (omega arith) (omega arith))

pub root_is_nearest : (x : Float) → T (fits binary64 x) → T (is_usable x) → Nearest binary64 x (root x)
unfolding Between Nearest
root_is_nearest x F u =
    let b = usable_bits x F u in
    let s = subst (λ (v : Float). Between (count binary64 v * 2 ^ 1074) (root v)) (of_bits-to_bits binary64 x F) (of_pattern (to_bits binary64 x) b.0 b.1) in
    (root_fits binary64 x F, s.0, s.1, s.2)
