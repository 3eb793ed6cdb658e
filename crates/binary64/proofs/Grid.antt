-- Rounding a whole number n to p binary digits: how far the result is from n. Nothing here is about floats. Assumes nothing.
use Rattle.std.proofs.Common.{◌≡◌, ℕ, zero, suc, ◌+◌, ◌-◌, ◌*◌, ◌/◌, ◌%◌, ◌^◌, ◌<◌, ◌≤◌, Bool, true, false, not, T, eqb, ltb, ◌⊎◌, sym, refl, ap, ◌∙◌, subst, inl, inr, le_trans, le_of_eq, le_refl, le_of_lt, mul-le-mul_right, mod-lt, mul_assoc, mul_comm, eq-zero-or-pos, div-add-mod', mul-one, arith, eqb→eq, ltb→lt, leb→le, nltb→le, pow_pos, pow_mono, pow-add, shl_lt}
use Prim.Native.Nat.{compare, Ordering}
use lib.Dec.{is_le, compare_is_eq, nleb→lt, eqb_refl}
use lib.Arith.{lt_of_le-ne}
use lib.Ieee.{size, nearest}
use lib.Ieee.Digits.{size_reaches, back}
use lib.Ieee.Nearest.{closest}
use Rattle.binary64.proofs.Parts.{gap}

-- ---- what `compare` says
abbrev Cmp : Ordering → ℕ → ℕ → Type 0
Cmp Ordering.lt a b = a < b
Cmp Ordering.eq a b = a ≡ b
Cmp Ordering.gt a b = b < a

cmp : (a b : ℕ) → Cmp (compare a b) a b
cmp a b = go (compare a b) (leb→le a b) (nleb→lt a b) (eqb→eq a b) (λ (e : a ≡ b). subst (λ (x : ℕ). T (eqb a x)) e (eqb_refl a))
  where
    go : (o : Ordering) → (T (is_le o) → a ≤ b) → (T (not (is_le o)) → b < a) → (T (compare_is_eq o) → a ≡ b) → (a ≡ b → T (compare_is_eq o)) → Cmp o a b
    go Ordering.lt h k e n = lt_of_le-ne (h tt) n
    go Ordering.eq h k e n = e tt
    go Ordering.gt h k e n = k tt

pub under_or_from : (a b : ℕ) → (a < b) ⊎ (b ≤ a)
under_or_from a b = go (ltb a b) (ltb→lt a b) (nltb→le a b)
  where
    go : (t : Bool) → (T t → a < b) → (T (not t) → b ≤ a) → (a < b) ⊎ (b ≤ a)
    go true h k = inl (h tt)
    go false h k = inr (k tt)

-- ---- the closest multiple of u is at most half of u away
bit : (q : ℕ) → (q % 2 ≡ 0) ⊎ (q % 2 ≡ 1)
bit q = go (q % 2) refl (mod-lt q (pow_pos 1))
  where
    go : (r : ℕ) → q % 2 ≡ r → q % 2 < 2 → (q % 2 ≡ 0) ⊎ (q % 2 ≡ 1)
    go zero e h = inl e
    go (suc r) e h = inr (one (q % 2) r e h)
      where
        one : (a b : ℕ) → a ≡ suc b → a < 2 → a ≡ 1
        one a b e h = omega arith

half_at : (n u q r : ℕ) (o : Ordering) → q * u + r ≡ n → r < u → Cmp o (r * 2) u → gap (nearest q o * u) n * 2 ≤ u
half_at n u q r Ordering.lt e h c = omega arith
half_at n u q r Ordering.eq e h c =
    elim (bit q) [
      | inl z ↦ subst (λ (b : ℕ). gap ((q + b) * u) n * 2 ≤ u) (sym z) (at0 (q * u) ((q + 0) * u) (ap (λ (x : ℕ). x * u) (add0 q)) e)
      | inr z ↦ subst (λ (b : ℕ). gap ((q + b) * u) n * 2 ≤ u) (sym z) (at1 (q * u) ((q + 1) * u) (more q u) e)
    ]
  where
    add0 : (a : ℕ) → a + 0 ≡ a
    add0 a = omega arith

    more : (a b : ℕ) → (a + 1) * b ≡ a * b + b
    more a b = omega arith

    at0 : (w v : ℕ) → v ≡ w → w + r ≡ n → gap v n * 2 ≤ u
    at0 w v x y = omega arith

    at1 : (w v : ℕ) → v ≡ w + u → w + r ≡ n → gap v n * 2 ≤ u
    at1 w v x y = omega arith
half_at n u q r Ordering.gt e h c = omega arith

pub half_off : (n u : ℕ) → 0 < u → gap (closest n u * u) n * 2 ≤ u
half_off n u h = half_at n u (n / u) (n % u) (compare (n % u * 2) u) (div-add-mod' n u) (mod-lt n h) (cmp (n % u * 2) u)

-- and no other multiple is nearer
pub no_nearer : (n u m : ℕ) → 0 < u → gap (closest n u * u) n ≤ gap (m * u) n
no_nearer n u m h = go (closest n u) (half_off n u h)
  where
    stepped : (a b : ℕ) → a < b → a * u + u ≤ b * u
    stepped a b l = le_trans (le_of_eq (once a u)) (mul-le-mul_right u l)
      where
        once : (x y : ℕ) → x * y + y ≡ suc x * y
        once x y = omega arith

    above : (x y : ℕ) → gap x n * 2 ≤ u → y + u ≤ x → gap x n ≤ gap y n
    above x y d l = omega arith

    below : (x y : ℕ) → gap x n * 2 ≤ u → x + u ≤ y → gap x n ≤ gap y n
    below x y d l = omega arith

    go : (c : ℕ) → gap (c * u) n * 2 ≤ u → gap (c * u) n ≤ gap (m * u) n
    go c d =
        elim (under_or_from m c) [
          | inl l ↦ above (c * u) (m * u) d (stepped m c l)
          | inr g ↦ elim (under_or_from c m) [
            | inl l ↦ below (c * u) (m * u) d (stepped c m l)
            | inr k ↦ subst (λ (x : ℕ). gap (c * u) n ≤ gap (x * u) n)
                (same c m g k) (le_refl (gap (c * u) n))
          ]
        ]
      where
        same : (x y : ℕ) → x ≤ y → y ≤ x → x ≡ y
        same x y a b = omega arith

-- ---- n to p digits
abbrev pub cut : ℕ → ℕ → ℕ
cut p n = size n - p

abbrev pub grid : ℕ → ℕ → ℕ
grid p n = closest n (2 ^ cut p n) * 2 ^ cut p n

in_use : (z p : ℕ) → 0 < p → 0 < z - p → p - 1 + (z - p) < z
in_use z p P h = omega arith

-- where digits are dropped, n is as large as the least number of that many digits
lead : (p n : ℕ) → 0 < p → 0 < cut p n → 2 ^ (p - 1) * 2 ^ cut p n ≤ n
lead p n P K = le_trans (le_of_eq (sym (pow-add 2 (p - 1) (cut p n)))) (size_reaches n (p - 1 + cut p n) (in_use (size n) p P K))

exact : (n k : ℕ) → k ≡ 0 → gap (closest n (2 ^ k) * 2 ^ k) n ≤ 0
exact n k e = subst (λ (j : ℕ). gap (closest n (2 ^ j) * 2 ^ j) n ≤ 0) (sym e) (le_trans (no_nearer n 1 n (pow_pos 0)) (le_of_eq (none n (n * 1) (mul-one n))))
  where
    none : (a b : ℕ) → b ≡ a → gap b a ≡ 0
    none a b e = omega arith

-- the relative error is at most a half of the last digit's weight
pub relative : (p n : ℕ) → 0 < p → gap (grid p n) n * 2 ^ p ≤ n
relative p n P =
    elim (eq-zero-or-pos (cut p n)) [
      | inl z ↦ le_trans (mul-le-mul_right (2 ^ p) (exact n (cut p n) z)) (nil n (2 ^ p))
      | inr k ↦
          le_trans (le_of_eq (ap (λ (x : ℕ). gap (grid p n) n * x) (double p P) ∙ sym (mul_assoc (gap (grid p n) n) 2 (2 ^ (p - 1)))))
          (le_trans (mul-le-mul_right (2 ^ (p - 1)) (half_off n (2 ^ cut p n) (pow_pos (cut p n))))
          (le_trans (le_of_eq (mul_comm (2 ^ cut p n) (2 ^ (p - 1)))) (lead p n P k)))
    ]
  where
    nil : (a b : ℕ) → 0 * b ≤ a
    nil a b = omega arith

    one_up : (a : ℕ) → 0 < a → 1 + (a - 1) ≡ a
    one_up a h = omega arith

    double : (a : ℕ) → 0 < a → 2 ^ a ≡ 2 * 2 ^ (a - 1)
    double a h = ap (λ (x : ℕ). 2 ^ x) (sym (one_up a h)) ∙ pow-add 2 1 (a - 1)

-- a number of at most p digits, with zeros after them
abbrev pub Short : ℕ → ℕ → Type 0
Short p v = (q : ℕ) × (j : ℕ) × (q < 2 ^ p) × (v ≡ q * 2 ^ j)

-- no such number is nearer to n
pub nearest_short : (p n v : ℕ) → 0 < p → Short p v → gap (grid p n) n ≤ gap v n
nearest_short p n v P S =
    let q = S.0 in
    let j = S.1 in
    let k = cut p n in
    elim (under_or_from j k) [
      | inl l ↦
          le_trans (no_nearer n (2 ^ k) (2 ^ (p - 1)) (pow_pos k))
          (farther v (2 ^ (p - 1) * 2 ^ k) (lead p n P (positive j k l))
          (subst (λ (x : ℕ). x ≤ 2 ^ (p - 1) * 2 ^ k) (sym S.3)
          (le_trans (le_of_lt (shl_lt p j S.2)) (le_trans (pow_mono (room p j k P l)) (le_of_eq (pow-add 2 (p - 1) k))))))
      | inr g ↦
          subst (λ (x : ℕ). gap (grid p n) n ≤ gap x n)
          (mul_assoc q (2 ^ (j - k)) (2 ^ k) ∙ ap (λ (x : ℕ). q * x) (sym (pow-add 2 (j - k) k) ∙ ap (λ (x : ℕ). 2 ^ x) (back j k g)) ∙ sym S.3)
          (no_nearer n (2 ^ k) (q * 2 ^ (j - k)) (pow_pos k))
    ]
  where
    positive : (a b : ℕ) → a < b → 0 < b
    positive a b l = omega arith

    room : (a b c : ℕ) → 0 < a → b < c → a + b ≤ a - 1 + c
    room a b c h l = omega arith

    farther : (a b : ℕ) → b ≤ n → a ≤ b → gap b n ≤ gap a n
    farther a b x y = omega arith

pub short_zero : (p : ℕ) → Short p 0
short_zero p = (0, 0, pow_pos p, refl)
