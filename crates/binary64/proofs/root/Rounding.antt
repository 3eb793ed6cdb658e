-- `nearest_root` at a number w that is M * 2 ^ k * 2 ^ k: it is the whole number nearest to the root of M, times 2 ^ k smallest values. Assumes nothing.
use Rattle.std.proofs.Common.{◌≡◌, ℕ, zero, suc, ◌+◌, ◌-◌, ◌*◌, ◌/◌, ◌%◌, ◌^◌, ◌<◌, ◌≤◌, Bool, true, false, cond, not, T, ltb, leb, ◌⊎◌, ℤ, sym, refl, ap, ◌∙◌, subst, inl, inr, zero-le, le_trans, le_of_eq, lt_of_lt_of_le, le_of_suc-le-suc, lt_of_le_of_lt, le_of_lt, lt_irrefl, mul-le-mul_right, zero-lt-suc, mul_assoc, div-lt_iff_lt-mul, mul-le-mul, le_antisymm, lt_of_mul-lt-mul_right, eq-or-lt_of_le, mul-le-mul_left, mul-lt-mul_of_pos_right, mul-pos, pow-suc, lt_of_not-le, zero-add, mul-suc, not-le_of_lt, div-mul-le_self, le_of_mul-le-mul_right, mul-div_cancel, add-one, arith, lit≤, eqb→eq, lt→ltb, leb→le, pow_pos, pow_mono, pow-add, shl_lt}
use Prim.Native.Nat.{compare, Ordering}
use native.Mathlib.Nat.{mul-mul-mul_comm, lt_of_mul-lt-mul_left}
use native.Mathlib.Numerals.{lt-add-one}
use lib.Dec.{is_le, compare_is_eq, nleb→lt}
use lib.Count.{count_trailing_zeros}
use lib.Ieee.{inf, fin, binary64, up, down, minus, size, nearest, odd, units, to_bits, of_bits}
use lib.Ieee.Digits.{odd_val, size-lt, size-le}
use lib.Ieee.Fits.{down_pos, odd-fits}
use lib.Ieee.Bits.{of_bits-to_bits}
use Rattle.lines.specs.Lines.{whole_root}
use Rattle.binary64.specs.Root.{nearest_root}
use Rattle.binary64.specs.Significand.{Near}
use Rattle.binary64.proofs.root.Squares.{next_square}

-- ---- the whole part of a root

step : (n t : ℕ) → t * t ≤ n / 4 → n / 4 < (t + 1) * (t + 1) → (b : Bool) → (T b → (2 * t + 1) * (2 * t + 1) ≤ n) → (T (not b) → n < (2 * t + 1) * (2 * t + 1))
    → (cond b (2 * t + 1) (2 * t) * cond b (2 * t + 1) (2 * t) ≤ n) × (n < (cond b (2 * t + 1) (2 * t) + 1) * (cond b (2 * t + 1) (2 * t) + 1))
step n t lo hi true p q =
    let x = next_square (2 * t + 1) in
    let y = next_square (2 * t) in
    let z : 2 * t * (2 * t) ≡ 4 * (t * t) = mul-mul-mul_comm 2 t 2 t in
    let w = next_square t in
    (p tt, omega arith)
step n t lo hi false p q =
    let z : 2 * t * (2 * t) ≡ 4 * (t * t) = mul-mul-mul_comm 2 t 2 t in
    (omega arith, q tt)

pub whole_root_law : (d n : ℕ) → n < 4 ^ d → (whole_root d n * whole_root d n ≤ n) × (n < (whole_root d n + 1) * (whole_root d n + 1))
unfolding whole_root
whole_root_law zero n h = (zero-le, h)
whole_root_law (suc d) n h =
    let t = whole_root d (n / 4) in
    let ih = whole_root_law d (n / 4) ((div-lt_iff_lt-mul (zero-lt-suc 3)).1 (subst (λ (x : ℕ). n < x) (pow-suc 4 d) h)) in
    step n t ih.0 ih.1 (leb ((2 * t + 1) * (2 * t + 1)) n) (leb→le ((2 * t + 1) * (2 * t + 1)) n) (nleb→lt ((2 * t + 1) * (2 * t + 1)) n)

pow-four : (d : ℕ) → 2 ^ d ≤ 4 ^ d
pow-four zero = le_of_eq refl
pow-four (suc d) = le_trans (le_of_eq (pow-suc 2 d)) (le_trans (mul-le-mul (pow-four d) (two-four)) (le_of_eq (sym (pow-suc 4 d))))
  where
    two-four : 2 ≤ 4
    two-four = omega arith

pub root_law : (w : ℕ) → (whole_root (size w) w * whole_root (size w) w ≤ w) × (w < (whole_root (size w) w + 1) * (whole_root (size w) w + 1))
root_law w = whole_root_law (size w) w (lt_of_lt_of_le (size-lt w) (pow-four (size w)))

-- ---- squares and order

sq_lt_back : (x y : ℕ) → x * x < y * y → x < y
sq_lt_back x y h = lt_of_not-le (λ (g : y ≤ x). not-le_of_lt h (mul-le-mul g g))

-- with the lower digits dropped, a whole root is the whole root of what the radicand was scaled from
floor_of : (M P w s : ℕ) → 0 < P → M * (P * P) ≡ w → s * s ≤ w → w < (s + 1) * (s + 1) → (s / P * (s / P) ≤ M) × (M < (s / P + 1) * (s / P + 1))
floor_of M P w s pp e lo hi =
    let q = s / P in
    let a : q * q * (P * P) ≤ M * (P * P) = le_trans (le_of_eq (sym (mul-mul-mul_comm q P q P)))
    (le_trans (mul-le-mul (div-mul-le_self s P) (div-mul-le_self s P)) (le_trans lo (le_of_eq (sym e)))) in
    let b : s < (q + 1) * P = (div-lt_iff_lt-mul pp).0 (lt-add-one q) in
    let c : s + 1 ≤ (q + 1) * P = le_trans (le_of_eq (add-one s)) b in
    let d : M * (P * P) < (q + 1) * (q + 1) * (P * P) = lt_of_lt_of_le (lt_of_le_of_lt (le_of_eq e) hi)
    (le_trans (mul-le-mul c c) (le_of_eq (mul-mul-mul_comm (q + 1) P (q + 1) P))) in
    (le_of_mul-le-mul_right a (mul-pos pp pp), lt_of_mul-lt-mul_right (P * P) d)

pub size_exact : (a n : ℕ) → 2 ^ a ≤ n → n < 2 ^ suc a → size n ≡ suc a
size_exact a n lo hi =
    le_antisymm (size-le n (suc a) hi) (lt_of_not-le (λ (g : size n ≤ a). lt_irrefl n (lt_of_lt_of_le (size-lt n) (le_trans (pow_mono g) lo))))

size_of : (M k w s : ℕ) → 2 ^ 104 ≤ M → M < 2 ^ 106 → M * (2 ^ k * 2 ^ k) ≡ w → s * s ≤ w → w < (s + 1) * (s + 1) → size s ≡ suc (52 + k)
size_of M k w s m n e lo hi =
    let P = 2 ^ k in
    let a : 2 ^ 52 * P < s + 1 = sq_lt_back (2 ^ 52 * P) (s + 1)
    (lt_of_le_of_lt (le_trans (le_of_eq (mul-mul-mul_comm (2 ^ 52) P (2 ^ 52) P)) (le_trans (mul-le-mul_right (P * P) m) (le_of_eq e))) hi) in
    let b : s < 2 ^ 53 * P = sq_lt_back s (2 ^ 53 * P)
    (lt_of_le_of_lt lo
    (lt_of_le_of_lt (le_of_eq (sym e))
    (lt_of_lt_of_le (mul-lt-mul_of_pos_right n (mul-pos (pow_pos k) (pow_pos k))) (le_of_eq (sym (mul-mul-mul_comm (2 ^ 53) P (2 ^ 53) P)))))) in
    size_exact (52 + k) s
    (le_trans (le_of_eq (pow-add 2 52 k)) (le_of_suc-le-suc (le_trans a (le_of_eq (add-one s)))))
    (lt_of_lt_of_le b (le_of_eq (sym (pow-add 2 53 k) ∙ ap (λ (j : ℕ). 2 ^ j) (plus k))))
  where
    plus : (j : ℕ) → 53 + j ≡ suc (52 + j)
    plus j = omega arith

-- ---- which way it rounds

clash : (a b : ℕ) → a < b → a ≡ b → ⊥
clash a b h e = omega arith

clash_gt : (a b : ℕ) → a < b → b < a → ⊥
clash_gt a b h e = omega arith

rounds_down : (q a b : ℕ) → a < b → nearest q (compare a b) ≡ q
rounds_down q a b h = go (compare a b) (nleb→lt a b) (eqb→eq a b)
  where
    go : (o : Ordering) → (T (not (is_le o)) → b < a) → (T (compare_is_eq o) → a ≡ b) → nearest q o ≡ q
    go Ordering.lt k e = refl
    go Ordering.eq k e = absurd (clash a b h (e tt))
    go Ordering.gt k e = absurd (clash_gt a b h (k tt))

rounds_up : (q a b : ℕ) → b < a → nearest q (compare a b) ≡ suc q
rounds_up q a b h = go (compare a b) (leb→le a b)
  where
    no : a ≤ b → ⊥
    no k = not-le_of_lt h k

    go : (o : Ordering) → (T (is_le o) → a ≤ b) → nearest q o ≡ suc q
    go Ordering.lt k = absurd (no (k tt))
    go Ordering.eq k = absurd (no (k tt))
    go Ordering.gt k = refl

at_most : (M h q : ℕ) → M ≤ h * h + h → q * q ≤ M → q ≤ h
at_most M h q u lo =
    let n = next_square h in
    le_of_suc-le-suc (le_trans (sq_lt_back q (h + 1) (omega arith)) (le_of_eq (add-one h)))

at_least : (M h q : ℕ) → h * h < M + h → M < (q + 1) * (q + 1) → h ≤ q + 1
at_least M zero q u hi = zero-le
at_least M (suc g) q u hi =
    let n : suc g * suc g ≡ g * g + g * 2 + 1 = ap (λ (x : ℕ). x * x) (sym (add-one g)) ∙ next_square g in
    sq_lt_back g (q + 1) (omega arith)

pub double_square : (q P : ℕ) → (2 * q + 1) * P * ((2 * q + 1) * P) ≡ (q * q * 4 + q * 4 + 1) * (P * P)
double_square q P =
    let z : 2 * q * (2 * q) ≡ 4 * (q * q) = mul-mul-mul_comm 2 q 2 q in
    let n = next_square (2 * q) in
    let s : (2 * q + 1) * (2 * q + 1) ≡ q * q * 4 + q * 4 + 1 = omega arith in
    mul-mul-mul_comm (2 * q + 1) P (2 * q + 1) P ∙ ap (λ (x : ℕ). x * (P * P)) s

four_times : (M P w : ℕ) → M * (P * P) ≡ w → 4 * w ≡ 4 * M * (P * P)
four_times M P w e = ap (λ (x : ℕ). 4 * x) (sym e) ∙ sym (mul_assoc 4 M (P * P))

choose : (M P w h q : ℕ) → 0 < P → M * (P * P) ≡ w → h * h < M + h → M ≤ h * h + h → q * q ≤ M → M < (q + 1) * (q + 1)
    → nearest q (compare (4 * w) ((2 * q + 1) * P * ((2 * q + 1) * P))) ≡ h
choose M P w h q pp e above under lo hi = go (eq-or-lt_of_le (at_most M h q under lo))
  where
    down_case : (x : ℕ) → x ≡ q → M ≤ x * x + x → 4 * M < q * q * 4 + q * 4 + 1
    down_case x s u = let t : x * x ≡ q * q = ap (λ (y : ℕ). y * y) s in omega arith

    is_next : q < h → h ≤ q + 1 → q + 1 ≡ h
    is_next a b = omega arith

    up_case : (x : ℕ) → q + 1 ≡ x → x * x < M + x → q * q * 4 + q * 4 + 1 < 4 * M
    up_case x s u = let t : (q + 1) * (q + 1) ≡ x * x = ap (λ (y : ℕ). y * y) s in let n = next_square q in omega arith

    go : (q ≡ h) ⊎ (q < h) → nearest q (compare (4 * w) ((2 * q + 1) * P * ((2 * q + 1) * P))) ≡ h
    go (inl s) =
        rounds_down q (4 * w) ((2 * q + 1) * P * ((2 * q + 1) * P))
        (lt_of_le_of_lt (le_of_eq (four_times M P w e))
        (lt_of_lt_of_le (mul-lt-mul_of_pos_right (down_case h (sym s) under) (mul-pos pp pp)) (le_of_eq (sym (double_square q P)))))
        ∙ s
    go (inr l) =
        let s = is_next l (at_least M h q above hi) in
        rounds_up q (4 * w) ((2 * q + 1) * P * ((2 * q + 1) * P))
        (lt_of_le_of_lt (le_of_eq (double_square q P))
        (lt_of_lt_of_le (mul-lt-mul_of_pos_right (up_case h s above) (mul-pos pp pp)) (le_of_eq (sym (four_times M P w e)))))
        ∙ sym (add-one q) ∙ s

-- ---- h has 53 digits

pub near_low : (a h : ℕ) → 2 ^ 52 ≤ a → Near a h → 2 ^ 52 ≤ h
near_low a h l n = le_of_suc-le-suc (lt_of_not-le (λ (g : suc h ≤ 2 ^ 52). no (mul-le-mul_left h g) g))
  where
    no : h * suc h ≤ h * 2 ^ 52 → suc h ≤ 2 ^ 52 → ⊥
    no p g = let s : h * suc h ≡ h * h + h = mul-suc h h in let u = n.under in omega arith

pub near_high : (a h : ℕ) → a + 2 ≤ 2 ^ 54 → Near a h → h < 2 ^ 53
near_high a h l n =
    lt_of_not-le
    (λ (g : 2 ^ 53 ≤ h). not-le_of_lt
    (lt_of_mul-lt-mul_left (2 ^ 53 - 1) (lt_of_lt_of_le (less h (h * h) (a * 2 ^ 52) (mul-le-mul_right h g) n.above) (mul-le-mul_right (2 ^ 52) (room a l)))) g)
  where
    less : (x s m : ℕ) → 2 ^ 53 * x ≤ s → s < m + x → (2 ^ 53 - 1) * x < m
    less x s m p q = omega arith

    room : (x : ℕ) → x + 2 ≤ 2 ^ 54 → x ≤ 2 ^ 54 - 2
    room x p = omega arith

-- ---- `nearest_root`, and the bit pattern of what it gives

nearest_root_is : (w k : ℕ) → size (whole_root (size w) w) - 53 ≡ k
    → nearest_root binary64 w
    ≡ units binary64 false
    (nearest (whole_root (size w) w / 2 ^ k)
    (compare (4 * w) ((2 * (whole_root (size w) w / 2 ^ k) + 1) * 2 ^ k * ((2 * (whole_root (size w) w / 2 ^ k) + 1) * 2 ^ k)))) k
unfolding nearest_root
nearest_root_is w k e =
    ap (λ (j : ℕ). units binary64 false
    (nearest (whole_root (size w) w / 2 ^ j)
    (compare (4 * w) ((2 * (whole_root (size w) w / 2 ^ j) + 1) * 2 ^ j * ((2 * (whole_root (size w) w / 2 ^ j) + 1) * 2 ^ j)))) j) e

in_range : (h k : ℕ) → h < 2 ^ 53 → k ≤ 2045 → h * 2 ^ k < 2 ^ 2098
in_range h k l m = lt_of_lt_of_le (shl_lt 53 k l) (pow_mono (more k m))
  where
    more : (j : ℕ) → j ≤ 2045 → 53 + j ≤ 2098
    more j g = omega arith

units_is : (h k : ℕ) → h < 2 ^ 53 → k ≤ 2045 → units binary64 false h k ≡ odd 54 false h k 1074
unfolding units
units_is h k l m = cond_yes (ltb (h * 2 ^ k) (2 ^ 2098)) (lt→ltb (h * 2 ^ k) (2 ^ 2098) (in_range h k l m))
  where
    cond_yes : (b : Bool) → T b → cond b (odd 54 false h k 1074) (inf false) ≡ odd 54 false h k 1074
    cond_yes true t = refl
    cond_yes false t = absurd t

pub nearest_root_near : (a h k : ℕ) → 2 ^ 52 ≤ a → a + 2 ≤ 2 ^ 54 → k ≤ 2045 → Near a h
    → nearest_root binary64 (a * 2 ^ 52 * (2 ^ k * 2 ^ k)) ≡ odd 54 false h k 1074
nearest_root_near a h k lo hi kl n =
    let M = a * 2 ^ 52 in
    let w = M * (2 ^ k * 2 ^ k) in
    let s = whole_root (size w) w in
    let law = root_law w in
    let z : size s - 53 ≡ k = ap (λ (x : ℕ). x - 53) (size_of M k w s (omega arith) (omega arith) refl law.0 law.1) ∙ less k in
    let q = floor_of M (2 ^ k) w s (pow_pos k) refl law.0 law.1 in
    nearest_root_is w k z
    ∙ ap (λ (x : ℕ). units binary64 false x k) (choose M (2 ^ k) w h (s / 2 ^ k) (pow_pos k) refl n.above n.under q.0 q.1)
    ∙ units_is h k (near_high a h hi n) kl
  where
    less : (j : ℕ) → suc (52 + j) - 53 ≡ j
    less j = omega arith

to_bits_is : (m : ℕ) (e : ℤ) (n k h : ℕ) → m * up e * 2 ^ 1074 / down e ≡ n → size n - 53 ≡ k → n / 2 ^ k ≡ h
    → to_bits binary64 (fin false m e) ≡ k * 2 ^ 52 + h
unfolding to_bits
to_bits_is m e n k h p r s =
    ap (λ (x : ℕ). 0 + (size x - 53) * 2 ^ 52 + x / 2 ^ (size x - 53)) p
    ∙ ap (λ (x : ℕ). 0 + x * 2 ^ 52 + n / 2 ^ x) r
    ∙ ap (λ (x : ℕ). 0 + k * 2 ^ 52 + x) s
    ∙ ap (λ (x : ℕ). x + h) (zero-add (k * 2 ^ 52))

pub to_bits_odd : (h k : ℕ) → 2 ^ 52 ≤ h → h < 2 ^ 53 → to_bits binary64 (odd 54 false h k 1074) ≡ k * 2 ^ 52 + h
unfolding odd
to_bits_odd zero k lo hi = absurd (no lo)
  where
    no : 2 ^ 52 ≤ 0 → ⊥
    no g = omega arith
to_bits_odd (suc g) k lo hi =
    let h = suc g in
    let t = count_trailing_zeros 54 h in
    let m = h / 2 ^ t in
    let e = minus (k + t) 1074 in
    to_bits_is m e (h * 2 ^ k) k h
    (ap (λ (x : ℕ). x / down e) (odd_val 54 false h k 1074) ∙ mul-div_cancel (h * 2 ^ k) (down_pos e))
    (ap (λ (x : ℕ). x - 53)
    (size_exact (52 + k) (h * 2 ^ k) (le_trans (le_of_eq (pow-add 2 52 k)) (mul-le-mul_right (2 ^ k) lo))
    (lt_of_lt_of_le (shl_lt 53 k hi) (le_of_eq (ap (λ (j : ℕ). 2 ^ j) (plus k))))) ∙ less k)
    (mul-div_cancel h (pow_pos k))
  where
    plus : (j : ℕ) → 53 + j ≡ suc (52 + j)
    plus j = omega arith

    less : (j : ℕ) → suc (52 + j) - 53 ≡ j
    less j = omega arith

pub of_bits-at : (h k : ℕ) → 2 ^ 52 ≤ h → h < 2 ^ 53 → k ≤ 2045 → of_bits binary64 (k * 2 ^ 52 + h) ≡ odd 54 false h k 1074
of_bits-at h k lo hi kl =
    let v = odd 54 false h k 1074 in
    ap (of_bits binary64) (sym (to_bits_odd h k lo hi))
    ∙ of_bits-to_bits binary64 v (odd-fits binary64 54 false h k (lt_of_lt_of_le hi (lit≤ tt)) (le_of_lt hi) (in_range h k hi kl))

-- ---- what `scaled` gives

pub doubled : (a o : ℕ) → o < 2 → a + o * a ≡ a * 2 ^ o
doubled a zero h = omega arith
doubled a (suc zero) h = omega arith
doubled a (suc (suc o)) h = absurd (no o h)
  where
    no : (x : ℕ) → suc (suc x) < 2 → ⊥
    no x g = omega arith

pub regroup : (a o k e : ℕ) → o + 52 + (k + k) ≡ e → a * 2 ^ o * 2 ^ 52 * (2 ^ k * 2 ^ k) ≡ a * 2 ^ e
regroup a o k e p =
    ap (λ (x : ℕ). x * (2 ^ k * 2 ^ k)) (mul_assoc a (2 ^ o) (2 ^ 52) ∙ ap (λ (x : ℕ). a * x) (sym (pow-add 2 o 52)))
    ∙ ap (λ (x : ℕ). a * 2 ^ (o + 52) * x) (sym (pow-add 2 k k))
    ∙ mul_assoc a (2 ^ (o + 52)) (2 ^ (k + k))
    ∙ ap (λ (x : ℕ). a * x) (sym (pow-add 2 (o + 52) (k + k)))
    ∙ ap (λ (x : ℕ). a * 2 ^ x) p

pub scaled_is : (a e h : ℕ) → 2 ^ 52 ≤ a → a < 2 ^ 53 → 1022 ≤ e → e < 3120 → Near (a + e % 2 * a) h
    → of_bits binary64 ((e - 52) / 2 * 2 ^ 52 + h) ≡ nearest_root binary64 (a * 2 ^ e)
scaled_is a e h la ha le he n =
    let o = e % 2 in
    let k = (e - 52) / 2 in
    let once : o * a ≤ 1 * a = mul-le-mul_right a (omega arith) in
    let top : a + o * a + 2 ≤ 2 ^ 54 = omega arith in
    let bottom : 2 ^ 52 ≤ a + o * a = omega arith in
    let kl : k ≤ 2045 = omega arith in
    let parts : o + 52 + (k + k) ≡ e = omega arith in
    of_bits-at h k (near_low (a + o * a) h bottom n) (near_high (a + o * a) h top n) kl
    ∙ sym (nearest_root_near (a + o * a) h k bottom top kl n)
    ∙ ap (λ (x : ℕ). nearest_root binary64 (x * 2 ^ 52 * (2 ^ k * 2 ^ k))) (doubled a o (omega arith))
    ∙ ap (nearest_root binary64) (regroup a o k e parts)

pub scaled_high : (a e h : ℕ) → a < 2 ^ 53 → Near (a + e % 2 * a) h → h < 2 ^ 53
scaled_high a e h ha n =
    let once : e % 2 * a ≤ 1 * a = mul-le-mul_right a (omega arith) in
    near_high (a + e % 2 * a) h (omega arith) n
