-- The root of a rounded square is the number that was squared, for a number of 53 digits whose square is far from the ends of the range. Assumes nothing.
use Rattle.std.proofs.Common.{◌≡◌, ℕ, zero, suc, ◌+◌, ◌-◌, ◌*◌, ◌/◌, ◌%◌, ◌^◌, ◌<◌, ◌≤◌, Bool, true, false, not, ◌&&◌, ◌||◌, T, eqb, ◌⊎◌, sym, refl, ap, ◌∙◌, subst, inl, inr, le_trans, le_of_eq, lt_of_lt_of_le, lt_of_le_of_lt, mul-le-mul_right, mul_assoc, mul-le-mul, mul-lt-mul_of_pos_right, mul-pos, zero-mul, mul_right_comm, arith, eqb→eq, pow_pos, pow-add}
use mathlib.Core.Bool.{beq}
use native.Mathlib.Nat.{mul-mul-mul_comm}
use lib.Dec.{eqb-suc-zero}
use lib.Pow.{pow-lt}
use lib.Ieee.{Float, nan, inf, fin, binary64, up, down, mul, eq, is_nan, odd, of_bits, size, units as make}
use lib.Ieee.Exact.{HasValue, odd_sign, units_val}
use lib.Ieee.Fits.{up_pos, down_pos, and_l, and_r}
use lib.Ieee.Nearest.{closest, closest_same, div_same}
use lib.Ieee.Positive.{positive, positive_of_value, mul_at}
use Rattle.binary64.specs.Root.{root, root_in, nearest_root}
use Rattle.binary64.specs.Significand.{Near}
use Rattle.binary64.proofs.Grid.{cut, half_off, under_or_from}
use Rattle.binary64.proofs.Parts.{gap}
use Rattle.binary64.proofs.Value.{round_at}
use Rattle.binary64.proofs.root.Rounding.{size_exact, nearest_root_near, of_bits-at}
use Rattle.binary64.proofs.root.Patterns.{root-positive}

-- the square of M * 2 ^ (537 + i) units is M * M * 2 ^ (i + i) units
pub square_at : (M i : ℕ) → M * 2 ^ (537 + i) * (M * 2 ^ (537 + i)) ≡ M * M * 2 ^ (i + i) * 2 ^ 1074
square_at M i = mul-mul-mul_comm M (2 ^ (537 + i)) M (2 ^ (537 + i)) ∙ ap (λ (x : ℕ). M * M * x) powers ∙ sym (mul_assoc (M * M) (2 ^ (i + i)) (2 ^ 1074))
  where
    sums : (j : ℕ) → 537 + j + (537 + j) ≡ j + j + 1074
    sums j = omega arith

    powers : 2 ^ (537 + i) * 2 ^ (537 + i) ≡ 2 ^ (i + i) * 2 ^ 1074
    powers = sym (pow-add 2 (537 + i) (537 + i)) ∙ ap (λ (x : ℕ). 2 ^ x) (sums i) ∙ pow-add 2 (i + i) 1074

square_units : (M i : ℕ) → M * 2 ^ (537 + i) * (M * 2 ^ (537 + i)) * 2 ^ 1074 ≡ M * M * 2 ^ (i + i) * (2 ^ 1074 * 2 ^ 1074)
square_units M i = ap (λ (x : ℕ). x * 2 ^ 1074) (square_at M i) ∙ mul_assoc (M * M * 2 ^ (i + i)) (2 ^ 1074) (2 ^ 1074)

-- what is left of it, q * 2 ^ c units, in the form that a root is taken of
root_units : (q o i : ℕ) → q * 2 ^ (52 + o + (i + i)) * 2 ^ 1074 ≡ q * 2 ^ o * 2 ^ 52 * (2 ^ (537 + i) * 2 ^ (537 + i))
root_units q o i =
    mul_assoc q (2 ^ (52 + o + (i + i))) (2 ^ 1074)
    ∙ ap (λ (x : ℕ). q * x)
    (sym (pow-add 2 (52 + o + (i + i)) 1074) ∙ ap (λ (x : ℕ). 2 ^ x) (sums o i) ∙ pow-add 2 (o + 52) (537 + i + (537 + i))
    ∙ ap (λ (x : ℕ). x * 2 ^ (537 + i + (537 + i))) (pow-add 2 o 52) ∙ ap (λ (x : ℕ). 2 ^ o * 2 ^ 52 * x) (pow-add 2 (537 + i) (537 + i)))
    ∙ sym (mul_assoc q (2 ^ o * 2 ^ 52) (2 ^ (537 + i) * 2 ^ (537 + i)))
    ∙ ap (λ (x : ℕ). x * (2 ^ (537 + i) * 2 ^ (537 + i))) (sym (mul_assoc q (2 ^ o) (2 ^ 52)))
  where
    sums : (p j : ℕ) → 52 + p + (j + j) + 1074 ≡ p + 52 + (537 + j + (537 + j))
    sums p j = omega arith

-- the square is above zero, and its root is the number
pub record Returned (g : Float) : Type 0 where
  pub some : T (positive (mul binary64 g g))
  pub back : root (mul binary64 g g) ≡ g

-- by how many digits of the square are dropped, 52 + o beside the 2 ^ (i + i)
module _ (M i o : ℕ) (lo : 2 ^ 52 ≤ M) (il : i ≤ 900) (ol : o ≤ 1) where
  abbrev q : ℕ
  q = closest (M * M) (2 ^ (52 + o))

  abbrev g : Float
  g = odd 54 false M (537 + i) 1074

  from_digits : size (M * M * 2 ^ (i + i)) ≡ 53 + (52 + o + (i + i)) → 2 ^ 52 ≤ q * 2 ^ o → q * 2 ^ o + 2 ≤ 2 ^ 54 → q ≤ 2 ^ 53 → Near (q * 2 ^ o) M
      → Returned g
  from_digits digits low high top near =
      let k = 537 + i in
      let n = M * M * 2 ^ (i + i) in
      let c = 52 + o + (i + i) in
      let v : HasValue g false (M * 2 ^ k) (2 ^ 1074) = odd_sign 54 false M k 1074 in
      let some : 0 < M = lt_of_lt_of_le (pow_pos 52) lo in
      let p : T (positive g) = positive_of_value g (M * 2 ^ k) (2 ^ 1074) v (mul-pos some (pow_pos k)) in
      let drops : cut 53 n ≡ c = ap (λ (x : ℕ). x - 53) digits ∙ less c in
      let same : closest n (2 ^ c)
      ≡ q = closest_same n (2 ^ c) (M * M) (2 ^ (52 + o)) (pow_pos c) (pow_pos (52 + o))
      (mul_assoc (M * M) (2 ^ (i + i)) (2 ^ (52 + o))
      ∙ ap (λ (x : ℕ). M * M * x) (sym (pow-add 2 (i + i) (52 + o)) ∙ ap (λ (x : ℕ). 2 ^ x) (turned (i + i) (52 + o)))) in
      let is : mul binary64 g g ≡ make binary64 false q c =
      mul_at binary64 g g (M * 2 ^ k) (2 ^ 1074) (M * 2 ^ k) (2 ^ 1074) p p (pow_pos 1074) (pow_pos 1074) v v
      ∙ round_at binary64 false (M * 2 ^ k * (M * 2 ^ k)) (2 ^ 1074 * 2 ^ 1074) n (mul-pos (pow_pos 1074) (pow_pos 1074)) (square_units M i)
      ∙ ap (λ (x : ℕ). make binary64 false (closest n (2 ^ x)) x) drops
      ∙ ap (λ (x : ℕ). make binary64 false x c) same in
      let room : q * 2 ^ c < 2 ^ 2098 = lt_of_le_of_lt (mul-le-mul_right (2 ^ c) top) (within c (omega (arith, il, ol))) in
      let w : HasValue (mul binary64 g g) false (q * 2 ^ c) (2 ^ 1074) = subst (λ (x : Float). HasValue x false (q * 2 ^ c) (2 ^ 1074)) (sym is)
      (units_val binary64 false q c room) in
      let above : 0 < q = first q (2 ^ o) (lt_of_lt_of_le (pow_pos 52) low) in
      record {
        some = positive_of_value (mul binary64 g g) (q * 2 ^ c) (2 ^ 1074) w (mul-pos above (pow_pos c));
        back =
            root-positive (mul binary64 g g) (q * 2 ^ c) (mul-pos above (pow_pos c)) w ∙ ap (nearest_root binary64) (root_units q o i)
            ∙ nearest_root_near (q * 2 ^ o) M k low high (omega (arith, il)) near;
      }
    where
      less : (x : ℕ) → 53 + x - 53 ≡ x
      less x = omega arith

      turned : (x y : ℕ) → x + y ≡ y + x
      turned x y = omega arith

      first : (x y : ℕ) → 0 < x * y → 0 < x
      first zero y h = absurd (omega (arith, h))
      first (suc x) y h = omega arith

      within : (c : ℕ) → c ≤ 2044 → 2 ^ 53 * 2 ^ c < 2 ^ 2098
      within c h = lt_of_le_of_lt (le_of_eq (sym (pow-add 2 53 c))) (pow_less (53 + c) (omega (arith, h)))
        where
          pow_less : (x : ℕ) → x < 2098 → 2 ^ x < 2 ^ 2098
          pow_less x l = pow-lt l

-- ---- the two lengths of a square of 53 digits: S stands for M * M, and q is its quotient, to the nearest, by 2 ^ 52 or by 2 ^ 53

near_short : (S M q : ℕ) → 2 ^ 52 ≤ M → M * M ≡ S → gap (q * 2 ^ 52) S * 2 ≤ 2 ^ 52 → Near (q * 2 ^ 0) M
near_short S M q lo e h =
    record {
      above = subst (λ (x : ℕ). x < q * 2 ^ 0 * 2 ^ 52 + M) (sym e) (omega (arith, h, lo));
      under = subst (λ (x : ℕ). q * 2 ^ 0 * 2 ^ 52 ≤ x + M)
          (sym e) (omega (arith, h, lo));
    }

near_long : (S M q : ℕ) → 2 ^ 52 < M → M * M ≡ S → gap (q * 2 ^ 53) S * 2 ≤ 2 ^ 53 → Near (q * 2 ^ 1) M
near_long S M q lo e h =
    record {
      above = subst (λ (x : ℕ). x < q * 2 ^ 1 * 2 ^ 52 + M) (sym e) (omega (arith, h, lo));
      under = subst (λ (x : ℕ). q * 2 ^ 1 * 2 ^ 52 ≤ x + M)
          (sym e) (omega (arith, h, lo));
    }

-- how many digits S * 2 ^ j has
pub digits_of : (S a j : ℕ) → 2 ^ a ≤ S → S < 2 ^ suc a → size (S * 2 ^ j) ≡ suc (a + j)
digits_of S a j lo hi =
    size_exact (a + j) (S * 2 ^ j) (le_trans (le_of_eq (pow-add 2 a j)) (mul-le-mul_right (2 ^ j) lo))
    (lt_of_lt_of_le (mul-lt-mul_of_pos_right hi (pow_pos j)) (le_of_eq (sym (pow-add 2 (suc a) j) ∙ ap (λ (x : ℕ). 2 ^ x) (next a j))))
  where
    next : (x y : ℕ) → suc x + y ≡ suc (x + y)
    next x y = omega arith

pub returned : (M i : ℕ) → 2 ^ 52 ≤ M → M < 2 ^ 53 → i ≤ 900 → Returned (odd 54 false M (537 + i) 1074)
returned M i lo hi il = go (under_or_from (M * M) (2 ^ 105))
  where
    least : 2 ^ 104 ≤ M * M
    least = le_trans (le_of_eq (pow-add 2 52 52)) (mul-le-mul lo lo)

    most : M * M ≤ (2 ^ 53 - 1) * (2 ^ 53 - 1)
    most = let b : M ≤ 2 ^ 53 - 1 = omega (arith, hi) in mul-le-mul b b

    more : 2 ^ 105 ≤ M * M → 2 ^ 52 < M
    more l = strict (under_or_from (2 ^ 52) M)
      where
        strict : (2 ^ 52 < M) ⊎ (M ≤ 2 ^ 52) → 2 ^ 52 < M
        strict (inl h) = h
        strict (inr h) = let s : M * M ≤ 2 ^ 52 * 2 ^ 52 = mul-le-mul h h in absurd (clash (M * M) s l)
          where
            clash : (S : ℕ) → S ≤ 2 ^ 52 * 2 ^ 52 → 2 ^ 105 ≤ S → ⊥
            clash S a b = omega (arith, a, b)

    short : (S q : ℕ) → 2 ^ 104 ≤ S → S < 2 ^ 105 → gap (q * 2 ^ 52) S * 2 ≤ 2 ^ 52 → (2 ^ 52 ≤ q * 2 ^ 0) × (q * 2 ^ 0 + 2 ≤ 2 ^ 54) × (q ≤ 2 ^ 53)
    short S q a b h = (omega (arith, a, b, h), omega (arith, a, b, h), omega (arith, a, b, h))

    long : (S q : ℕ) → 2 ^ 105 ≤ S → S ≤ (2 ^ 53 - 1) * (2 ^ 53 - 1) → gap (q * 2 ^ 53) S * 2 ≤ 2 ^ 53
        → (2 ^ 52 ≤ q * 2 ^ 1) × (q * 2 ^ 1 + 2 ≤ 2 ^ 54) × (q ≤ 2 ^ 53)
    long S q a b h = (omega (arith, a, b, h), omega (arith, a, b, h), omega (arith, a, b, h))

    under_top : (S : ℕ) → S ≤ (2 ^ 53 - 1) * (2 ^ 53 - 1) → S < 2 ^ 106
    under_top S h = omega (arith, h)

    grouped : (a j : ℕ) → suc (52 + a + j) ≡ 53 + (a + j)
    grouped a j = omega arith

    go : (M * M < 2 ^ 105) ⊎ (2 ^ 105 ≤ M * M) → Returned (odd 54 false M (537 + i) 1074)
    go (inl l) =
        let h = half_off (M * M) (2 ^ 52) (pow_pos 52) in
        let b = short (M * M) (closest (M * M) (2 ^ 52)) least l h in
        from_digits M i 0 lo il (omega arith) (digits_of (M * M) 104 (i + i) least l ∙ grouped 52 (i + i)) b.0 b.1 b.2
        (near_short (M * M) M (closest (M * M) (2 ^ 52)) lo refl h)
    go (inr l) =
        let h = half_off (M * M) (2 ^ 53) (pow_pos 53) in
        let b = long (M * M) (closest (M * M) (2 ^ 53)) l most h in
        from_digits M i 1 lo il (omega arith) (digits_of (M * M) 105 (i + i) l (under_top (M * M) most) ∙ grouped 53 (i + i)) b.0 b.1 b.2
        (near_long (M * M) M (closest (M * M) (2 ^ 53)) (more l) refl h)

-- by a bit pattern
pub returned_bits : (b : ℕ) → 0x21a0_0000_0000_0000 ≤ b → b < 0x59f0_0000_0000_0000 → Returned (of_bits binary64 b)
returned_bits b lo hi =
    let M = b % 2 ^ 52 + 2 ^ 52 in
    let i = b / 2 ^ 52 - 538 in
    let low : 2 ^ 52 ≤ M = omega arith in
    let high : M < 2 ^ 53 = omega arith in
    let il : i ≤ 900 = omega (arith, hi) in
    let parts : b ≡ (537 + i) * 2 ^ 52 + M = omega (arith, lo) in
    subst Returned (sym (ap (of_bits binary64) parts ∙ of_bits-at M (537 + i) low high (omega (arith, il)))) (returned M i low high il)

-- ---- numbers that compare equal have one root

no_sign : (a : ℕ) → 0 < a → (eqb a a && (false || eqb a 0)) ≡ true → ⊥
no_sign zero p h = omega (arith, p)
no_sign (suc a) p h = let t = and_r (eqb (suc a) (suc a)) (false || eqb (suc a) 0) (subst T (sym h) tt) in subst T (eqb-suc-zero a) t

equal_of : (a b : ℕ) (t : Bool) → (eqb a b && t) ≡ true → a ≡ b
equal_of a b t h = eqb→eq a b (and_l (eqb a b) t (subst T (sym h) tt))

pub same-root : (y x : Float) → T (positive y) → eq y x ≡ true → root y ≡ root x
unfolding eq root_in
same-root nan x p h = absurd p
same-root (inf s) x p h = absurd p
same-root (fin true m e) x p h = absurd p
same-root (fin false zero e) x p h = absurd p
same-root (fin false (suc m) e) nan p h = absurd (subst T (sym h) tt)
same-root (fin false (suc m) e) (inf t) p h = absurd (subst T (sym h) tt)
same-root (fin false (suc m) e) (fin true n d) p h =
    let a = suc m * up e * down d in
    let z = equal_of a (n * up d * down e) (beq false true || eqb a 0) h in
    absurd (no_sign a (mul-pos (mul-pos (omega arith) (up_pos e)) (down_pos d)) (subst (λ (x : ℕ). (eqb a x && (false || eqb a 0)) ≡ true) (sym z) h))
same-root (fin false (suc m) e) (fin false zero d) p h =
    let a = suc m * up e * down d in
    let z = equal_of a (0 * up d * down e) (beq false false || eqb a 0) h in
    absurd (none a (mul-pos (mul-pos (omega arith) (up_pos e)) (down_pos d)) (z ∙ ap (λ (x : ℕ). x * down e) (zero-mul (up d)) ∙ zero-mul (down e)))
  where
    none : (x : ℕ) → 0 < x → x ≡ 0 → ⊥
    none x l q = omega (arith, l, q)
same-root (fin false (suc m) e) (fin false (suc n) d) p h =
    let z = equal_of (suc m * up e * down d) (suc n * up d * down e) (beq false false || eqb (suc m * up e * down d) 0) h in
    ap (nearest_root binary64)
    (div_same (suc m * up e * 2 ^ 1074 * 2 ^ 1074) (down e) (suc n * up d * 2 ^ 1074 * 2 ^ 1074) (down d) (down_pos e) (down_pos d)
    (moved (suc m * up e) (suc n * up d) (down e) (down d) (2 ^ 1074) z))
  where
    moved : (u v x y w : ℕ) → u * y ≡ v * x → u * w * w * y ≡ v * w * w * x
    moved u v x y w q =
        mul_right_comm (u * w) w y ∙ ap (λ (k : ℕ). k * w) (mul_right_comm u w y ∙ ap (λ (k : ℕ). k * w) q ∙ sym (mul_right_comm v w x))
        ∙ sym (mul_right_comm (v * w) w x)

pub root_guessed : (x guess : Float) (b : ℕ) → of_bits binary64 b ≡ guess → eq (mul binary64 guess guess) x ≡ true → 0x21a0_0000_0000_0000 ≤ b
    → b < 0x59f0_0000_0000_0000 → guess ≡ root x
root_guessed x guess b e h lo hi =
    let r = subst Returned e (returned_bits b lo hi) in
    sym r.back ∙ same-root (mul binary64 guess guess) x r.some h

-- a guess whose square compares equal to something is a number
pub guess_number : (x guess : Float) → eq (mul binary64 guess guess) x ≡ true → T (not (is_nan guess))
unfolding eq mul is_nan
guess_number x nan h = absurd (subst T (sym h) tt)
guess_number x (inf s) h = tt
guess_number x (fin s m e) h = tt
