-- The test that settles a root in floating point: with s near the root, and a number of 26 digits, so that its square is exact,
-- y - g * g is (y - s * s) - (g - s) * (s + g), of which only the last digits are lost. Assumes nothing.
use Rattle.std.proofs.Common.{◌≡◌, ℕ, suc, ◌+◌, ◌-◌, ◌*◌, ◌^◌, ◌<◌, ◌≤◌, Bool, true, false, cond, not, T, sym, refl, ap, ◌∙◌, subst, inl, inr, le_trans, le_of_eq, lt_of_lt_of_le, lt_of_le_of_lt, le_of_lt, mul-le-mul_right, mul_assoc, mul_comm, mul-le-mul, lt_of_mul-lt-mul_right, mul-le-mul_left, mul-pos, lt_of_not-le, mul-add, mul_right_comm, not-le_of_lt, le_of_mul-le-mul_right, arith, lit≤, pow_pos, pow_mono, pow-add, shl_lt}
use native.Mathlib.Nat.{mul-mul-mul_comm}
use lib.Pow.{pow-lt}
use lib.Ieee.{Float, binary64, unlike, size, add, sub, mul, le}
use lib.Ieee.Digits.{size-lt}
use lib.Ieee.Exact.{HasValue, odd_sign}
use lib.Ieee.Nearest.{closest}
use Rattle.binary64.specs.Significand.{Near, rest, margin}
use Rattle.binary64.proofs.Parts.{gap}
use Rattle.binary64.proofs.Grid.{half_off, under_or_from}
use Rattle.binary64.proofs.Rounded.{Off, Sum, Small, kept, kept_off, kept_short, kept_le, kept_pos, at_most, mul_value, add_value, sub_value, le_value}
use Rattle.binary64.proofs.root.Amounts.{Within, near_sides, under_square, rest_of, rest_small}
use Rattle.binary64.proofs.root.Returned.{square_at, digits_of}
use Rattle.binary64.proofs.root.Rounding.{of_bits-at}
use Rattle.binary64.proofs.root.Squares.{square_lt}

abbrev pub Value : Float → Bool → ℕ → Type 0
Value x s X = HasValue x s X (2 ^ 1074)

abbrev to53 : ℕ → ℕ
to53 n = kept binary64 n

-- ---- sizes

doubled : (j : ℕ) → 2 * 2 ^ j ≡ 2 ^ suc j
doubled j = sym (pow-add 2 1 j) ∙ ap (λ (x : ℕ). 2 ^ x) (one j)
  where
    one : (i : ℕ) → 1 + i ≡ suc i
    one i = omega arith

two_at : (a b j : ℕ) → a ≤ 2 ^ j → b ≤ 2 ^ j → a + b ≤ 2 ^ suc j
two_at a b j h k = le_trans (both a b (2 ^ j) h k) (le_of_eq (doubled j))
  where
    both : (a b p : ℕ) → a ≤ p → b ≤ p → a + b ≤ 2 * p
    both a b p h k = omega (arith, h, k)

small_at : (n j : ℕ) → n ≤ 2 ^ j → j ≤ 2096 → Small binary64 n
small_at n j h l = let m : suc j < 2098 = omega (arith, l) in lt_of_le_of_lt (two_at n n j h h) (pow-lt m)

twice_at : (n j : ℕ) → n ≤ 2 ^ j → to53 n ≤ 2 ^ suc j
twice_at n j h = le_trans (kept_le binary64 n) (two_at n n j h h)

shifted : (a i j : ℕ) → a < 2 ^ i → a * 2 ^ j ≤ 2 ^ (i + j)
shifted a i j h = le_of_lt (shl_lt i j h)

-- ---- signs

unlike_false : (b : Bool) → unlike b false ≡ b
unlike_false true = refl
unlike_false false = refl

unlike_self : (b : Bool) → unlike b b ≡ false
unlike_self true = refl
unlike_self false = refl

-- g * u less s * u is ± C * u
abbrev Apart : Bool → ℕ → ℕ → ℕ → Type 0
Apart r s g c = cond r (s ≡ g + c) (g ≡ s + c)

apart : (r : Bool) (g s u n : ℕ) → 0 < u → cond r 0 n + (0 + s * u) ≡ cond r n 0 + (g * u + 0) → (c : ℕ) × ((n ≡ c * u) × Apart r s g c)
apart false g s u n h e =
    let l : s ≤ g = le_of_mul-le-mul_right (at_least (s * u) (g * u) e) h in
    (g - s, (sized (g - s) (whole s g l) e, sym (whole s g l)))
  where
    at_least : (a b : ℕ) → n + (0 + a) ≡ 0 + (b + 0) → a ≤ b
    at_least a b q = omega (arith, q)

    whole : (a b : ℕ) → a ≤ b → a + (b - a) ≡ b
    whole a b k = omega (arith, k)

    sized : (c : ℕ) → s + c ≡ g → n + (0 + s * u) ≡ 0 + (g * u + 0) → n ≡ c * u
    sized c q p = let w : (s + c) * u ≡ g * u = ap (λ (x : ℕ). x * u) q in omega (arith, w, p)
apart true g s u n h e =
    let l : g ≤ s = le_of_mul-le-mul_right (at_least (s * u) (g * u) e) h in
    (s - g, (sized (s - g) (whole g s l) e, sym (whole g s l)))
  where
    at_least : (a b : ℕ) → 0 + (0 + a) ≡ n + (b + 0) → b ≤ a
    at_least a b q = omega (arith, q)

    whole : (a b : ℕ) → a ≤ b → a + (b - a) ≡ b
    whole a b k = omega (arith, k)

    sized : (c : ℕ) → g + c ≡ s → 0 + (0 + s * u) ≡ n + (g * u + 0) → n ≡ c * u
    sized c q p = let w : (g + c) * u ≡ s * u = ap (λ (x : ℕ). x * u) q in omega (arith, w, p)

-- ---- the parts of the test

margin_value : Value margin false (255 * 2 ^ 962)
margin_value =
    subst (λ (x : Float). Value x false (255 * 2 ^ 962)) (sym (of_bits-at (255 * 2 ^ 45) 917 (lit≤ tt) (lit≤ tt) (lit≤ tt)))
    (odd_sign 54 false (255 * 2 ^ 45) 917 1074)

abbrev pub Tested : Float → Float → Float → Type 0
Tested y s g = T (le (mul binary64 (rest y s g) (rest y s g)) (mul binary64 (mul binary64 s s) margin))

-- y is n, s is t * 2 ^ 27 and g is h, in units of 2 ^ -52
module _ (n t h : ℕ) (y s g : Float) (t-least : 2 ^ 25 ≤ t) (t-most : t < 2 ^ 26) (h-least : 2 ^ 52 ≤ h) (h-most : h < 2 ^ 53) (n-most : n < 2 ^ 54)
    (y-is : Value y false (n * 2 ^ 1022)) (s-is : Value s false (t * 2 ^ 27 * 2 ^ 1022)) (g-is : Value g false (h * 2 ^ 1022)) where
  abbrev S : ℕ
  S = t * 2 ^ 27

  S_least : 2 ^ 52 ≤ S
  S_least = omega (arith, t-least)

  S_most : S < 2 ^ 53
  S_most = omega (arith, t-most)

  -- the square of s, exact
  tt_most : t * t < 2 ^ 52
  tt_most = lt_of_lt_of_le (square_lt t (2 ^ 26) t-most) (lit≤ tt)

  Q_is : Value (mul binary64 s s) false (t * t * 2 ^ 1024)
  Q_is =
      subst (λ (k : ℕ). Value (mul binary64 s s) false k) (kept_short binary64 (t * t * 2 ^ 1024) (t * t, 1024, lt_of_lt_of_le tt_most (lit≤ tt), refl))
      (mul_value binary64 s s false false (S * 2 ^ 1022) (S * 2 ^ 1022) (t * t * 2 ^ 1024) s-is s-is product
      (small_at (t * t * 2 ^ 1024) 1076 (shifted (t * t) 52 1024 tt_most) (lit≤ tt)))
    where
      product : S * 2 ^ 1022 * (S * 2 ^ 1022) ≡ t * t * 2 ^ 1024 * 2 ^ 1074
      product =
          ap (λ (x : ℕ). x * x) (mul_assoc t (2 ^ 27) (2 ^ 1022)) ∙ mul-mul-mul_comm t (2 ^ 27 * 2 ^ 1022) t (2 ^ 27 * 2 ^ 1022)
          ∙ sym (mul_assoc (t * t) (2 ^ 1024) (2 ^ 1074))

  as_square : t * t * 2 ^ 1024 ≡ S * S * 2 ^ 970
  as_square = sym (mul_assoc (t * t) (2 ^ 54) (2 ^ 970)) ∙ ap (λ (x : ℕ). x * 2 ^ 970) (sym (mul-mul-mul_comm t (2 ^ 27) t (2 ^ 27)))

  -- y less that square
  D_is : Sum binary64 (sub binary64 y (mul binary64 s s)) false (n * 2 ^ 1022) true (t * t * 2 ^ 1024)
  D_is = sub_value binary64 y (mul binary64 s s) false false (n * 2 ^ 1022) (t * t * 2 ^ 1024) y-is Q_is
      (small_at (n * 2 ^ 1022 + t * t * 2 ^ 1024) 1077
      (two_at (n * 2 ^ 1022) (t * t * 2 ^ 1024) 1076 (shifted n 54 1022 n-most) (shifted (t * t) 52 1024 tt_most)) (lit≤ tt))

  -- g less s
  C-sum : Sum binary64 (sub binary64 g s) false (h * 2 ^ 1022) true (S * 2 ^ 1022)
  C-sum = sub_value binary64 g s false false (h * 2 ^ 1022) (S * 2 ^ 1022) g-is s-is
      (small_at (h * 2 ^ 1022 + S * 2 ^ 1022) 1076 (two_at (h * 2 ^ 1022) (S * 2 ^ 1022) 1075 (shifted h 53 1022 h-most) (shifted S 53 1022 S_most)) (lit≤ tt))

  abbrev rc : Bool
  rc = C-sum.sign

  C_apart : (c : ℕ) × ((C-sum.size ≡ c * 2 ^ 1022) × Apart rc S h c)
  C_apart = apart rc h S (2 ^ 1022) C-sum.size (pow_pos 1022) C-sum.exact

  abbrev C : ℕ
  C = C_apart.0

  C-below : C < 2 ^ 53
  C-below = go rc C C_apart.1.1
    where
      go : (r : Bool) (c : ℕ) → Apart r S h c → c < 2 ^ 53
      go true c e = omega (arith, e, S_most)
      go false c e = omega (arith, e, h-most)

  C_is : Value (sub binary64 g s) rc (C * 2 ^ 1022)
  C_is =
      subst (λ (k : ℕ). Value (sub binary64 g s) rc k) (ap to53 C_apart.1.0 ∙ kept_short binary64 (C * 2 ^ 1022) (C, 1022, C-below, refl)) C-sum.value

  -- s and g together
  W-sum : Sum binary64 (add binary64 s g) false (S * 2 ^ 1022) false (h * 2 ^ 1022)
  W-sum = add_value binary64 s g false false (S * 2 ^ 1022) (h * 2 ^ 1022) s-is g-is
      (small_at (S * 2 ^ 1022 + h * 2 ^ 1022) 1076 (two_at (S * 2 ^ 1022) (h * 2 ^ 1022) 1075 (shifted S 53 1022 S_most) (shifted h 53 1022 h-most)) (lit≤ tt))

  abbrev W : ℕ
  W = (S + h) * 2 ^ 1022

  abbrev H : ℕ
  H = closest W (2 ^ 1023)

  W_is : Value (add binary64 s g) false (H * 2 ^ 1023)
  W_is =
      subst (λ (k : ℕ). Value (add binary64 s g) false k)
      (ap (λ (k : ℕ). closest W (2 ^ k) * 2 ^ k)
      (ap (λ (x : ℕ). x - 53) (digits_of (S + h) 53 1022 (omega (arith, S_least, h-least)) (omega (arith, S_most, h-most)))))
      (go W-sum.sign W-sum.size W-sum.exact W-sum.value)
    where
      spread : (a b c : ℕ) → (a + b) * c ≡ a * c + b * c
      spread a b c = omega arith

      none : (a b c d : ℕ) → 0 < a → 0 + (0 + 0) ≡ c + (a + b) → ⊥
      none a b c d p e = omega (arith, p, e)

      all : (a b c : ℕ) → c + (0 + 0) ≡ 0 + (a + b) → c ≡ a + b
      all a b c e = omega (arith, e)

      go : (r : Bool) (k : ℕ) → cond r 0 k + (0 + 0) ≡ cond r k 0 + (S * 2 ^ 1022 + h * 2 ^ 1022) → Value (add binary64 s g) r (to53 k)
          → Value (add binary64 s g) false (to53 W)
      go true k e v = absurd (none (S * 2 ^ 1022) (h * 2 ^ 1022) k 0 (mul-pos (lt_of_lt_of_le (pow_pos 52) S_least) (pow_pos 1022)) e)
      go false k e v = subst (λ (i : ℕ). Value (add binary64 s g) false (to53 i)) (all (S * 2 ^ 1022) (h * 2 ^ 1022) k e ∙ sym (spread S h (2 ^ 1022))) v

  -- twice H is the sum of S and h, or next to it
  H_near : Within (H * 2) (S + h) 1
  H_near = go (half_off W (2 ^ 1023) (pow_pos 1023))
    where
      double : H * 2 ^ 1023 ≡ H * 2 * 2 ^ 1022
      double = sym (mul_assoc H 2 (2 ^ 1022))

      above : (a b u : ℕ) → gap a b * 2 ≤ 2 * u → a ≤ b + u
      above a b u l = omega (arith, l)

      below : (a b u : ℕ) → gap a b * 2 ≤ 2 * u → b ≤ a + u
      below a b u l = omega (arith, l)

      once : (a u : ℕ) → a * u + u ≡ (a + 1) * u
      once a u = omega arith

      go : gap (H * 2 ^ 1023) W * 2 ≤ 2 ^ 1023 → Within (H * 2) (S + h) 1
      go l =
          let k : gap (H * 2 * 2 ^ 1022) W * 2 ≤ 2 * 2 ^ 1022 = subst (λ (x : ℕ). gap x W * 2 ≤ 2 ^ 1023) double l in (
            le_of_mul-le-mul_right (le_trans (above (H * 2 * 2 ^ 1022) W (2 ^ 1022) k) (le_of_eq (once (S + h) (2 ^ 1022)))) (pow_pos 1022),
            le_of_mul-le-mul_right (le_trans (below (H * 2 * 2 ^ 1022) W (2 ^ 1022) k) (le_of_eq (once (H * 2) (2 ^ 1022)))) (pow_pos 1022),
          )

  H_most : H ≤ 2 ^ 53
  H_most = go H_near.0
    where
      go : H * 2 ≤ S + h + 1 → H ≤ 2 ^ 53
      go l = omega (arith, l, S_most, h-most)

  N_most : C * H * 2 ^ 971 ≤ 2 ^ 1077
  N_most = le_trans (mul-le-mul_right (2 ^ 971) (mul-le-mul (le_of_lt C-below) H_most)) (lit≤ tt)

  -- the difference's product with the sum
  N_is : Value (mul binary64 (sub binary64 g s) (add binary64 s g)) rc (to53 (C * H * 2 ^ 971))
  N_is =
      subst (λ (o : Bool). Value (mul binary64 (sub binary64 g s) (add binary64 s g)) o (to53 (C * H * 2 ^ 971))) (unlike_false rc)
      (mul_value binary64 (sub binary64 g s) (add binary64 s g) rc false (C * 2 ^ 1022) (H * 2 ^ 1023) (C * H * 2 ^ 971) C_is W_is product
      (small_at (C * H * 2 ^ 971) 1077 N_most (lit≤ tt)))
    where
      product : C * 2 ^ 1022 * (H * 2 ^ 1023) ≡ C * H * 2 ^ 971 * 2 ^ 1074
      product = mul-mul-mul_comm C (2 ^ 1022) H (2 ^ 1023) ∙ sym (mul_assoc (C * H) (2 ^ 971) (2 ^ 1074))

  -- what is left
  abbrev g_d : ℕ
  g_d = to53 D_is.size

  abbrev g_p : ℕ
  g_p = to53 (C * H * 2 ^ 971)

  parts_most : g_d + g_p ≤ 2 ^ 1079
  parts_most =
      two_at g_d g_p 1078
      (twice_at D_is.size 1077
      (le_trans (at_most binary64 (sub binary64 y (mul binary64 s s)) false (n * 2 ^ 1022) true (t * t * 2 ^ 1024) D_is)
      (two_at (n * 2 ^ 1022) (t * t * 2 ^ 1024) 1076 (shifted n 54 1022 n-most) (shifted (t * t) 52 1024 tt_most)))) (twice_at (C * H * 2 ^ 971) 1077 N_most)

  R_is : Sum binary64 (rest y s g) D_is.sign g_d (not rc) g_p
  R_is =
      sub_value binary64 (sub binary64 y (mul binary64 s s)) (mul binary64 (sub binary64 g s) (add binary64 s g)) D_is.sign rc g_d g_p D_is.value N_is
      (small_at (g_d + g_p) 1079 parts_most (lit≤ tt))

  abbrev R : ℕ
  R = R_is.size

  R_most : R ≤ 2 ^ 1079
  R_most = le_trans (at_most binary64 (rest y s g) D_is.sign g_d (not rc) g_p R_is) parts_most

  -- ---- what the test says of it
  abbrev U : ℕ
  U = 2 ^ 970

  bound_is : Value (mul binary64 (mul binary64 s s) margin) false (to53 (t * t * 255 * 2 ^ 912))
  bound_is = mul_value binary64 (mul binary64 s s) margin false false (t * t * 2 ^ 1024) (255 * 2 ^ 962) (t * t * 255 * 2 ^ 912) Q_is margin_value
      (mul-mul-mul_comm (t * t) (2 ^ 1024) 255 (2 ^ 962) ∙ sym (mul_assoc (t * t * 255) (2 ^ 912) (2 ^ 1074)))
      (small_at (t * t * 255 * 2 ^ 912) 972 (shifted (t * t * 255) 60 912 (omega (arith, tt_most))) (lit≤ tt))

  module _ (tested : Tested y s g) (i κ : ℕ) (is : to53 R ≡ κ * 2 ^ (537 + i)) where
    abbrev r : ℕ
    r = κ * 2 ^ (537 + i)

    abbrev M : ℕ
    M = κ * κ * 2 ^ (i + i)

    r_most : r ≤ 2 ^ 1080
    r_most = subst (λ (x : ℕ). x ≤ 2 ^ 1080) is (twice_at R 1079 R_most)

    M_most : M ≤ 2 ^ 1086
    M_most =
        le_of_mul-le-mul_right
        (le_trans (le_of_eq (sym (square_at κ i))) (le_trans (mul-le-mul r_most r_most) (le_of_eq (sym (pow-add 2 1080 1080) ∙ pow-add 2 1086 1074))))
        (pow_pos 1074)

    square_is : Value (mul binary64 (rest y s g) (rest y s g)) false (to53 M)
    square_is =
        let v : Value (rest y s g) R_is.sign r = subst (λ (k : ℕ). Value (rest y s g) R_is.sign k) is R_is.value in
        subst (λ (o : Bool). Value (mul binary64 (rest y s g) (rest y s g)) o (to53 M)) (unlike_self R_is.sign)
        (mul_value binary64 (rest y s g) (rest y s g) R_is.sign R_is.sign r r M v v (square_at κ i) (small_at M 1086 M_most (lit≤ tt)))

    ordered : to53 M ≤ to53 (t * t * 255 * 2 ^ 912)
    ordered =
        le_value binary64 (mul binary64 (rest y s g) (rest y s g)) (mul binary64 (mul binary64 s s) margin) (to53 M)
        (to53 (t * t * 255 * 2 ^ 912)) square_is bound_is
        (kept_pos binary64 (t * t * 255 * 2 ^ 912) (mul-pos (mul-pos (mul-pos t_pos t_pos) (lit≤ tt)) (pow_pos 912))) tested
      where
        t_pos : 0 < t
        t_pos = lt_of_lt_of_le (pow_pos 25) t-least

    r_below : 1024 * r ≤ 1023 * (S * U)
    r_below =
        under_square r (S * U) (M * 2 ^ 1074) (t * t * 2 ^ 1986) (square_at κ i) scaled
        (go (kept_off binary64 M).under ordered (kept_off binary64 (t * t * 255 * 2 ^ 912)).over)
      where
        scaled : S * U * (S * U) ≡ 256 * (t * t * 2 ^ 1986)
        scaled =
            ap (λ (x : ℕ). x * x) (mul_assoc t (2 ^ 27) (2 ^ 970)) ∙ mul-mul-mul_comm t (2 ^ 997) t (2 ^ 997) ∙ sym (mul_assoc (t * t) (2 ^ 1986) 256)
            ∙ mul_comm (t * t * 2 ^ 1986) 256

        limit : t * t * 255 * 2 ^ 912 * 2 ^ 1074 ≡ 255 * (t * t * 2 ^ 1986)
        limit = mul_assoc (t * t * 255) (2 ^ 912) (2 ^ 1074) ∙ mul_right_comm (t * t) 255 (2 ^ 1986) ∙ mul_comm (t * t * 2 ^ 1986) 255

        chain : (a b k l p : ℕ) → a * p ≤ k * p + a → k ≤ l → l * p ≤ b * p + b → a * p ≤ b * p + b + a
        chain a b k l p x z w = le_trans x (le_trans (plus (le_trans (mul-le-mul_right p z) w)) (le_of_eq refl))
          where
            plus : k * p ≤ b * p + b → k * p + a ≤ b * p + b + a
            plus q = omega (arith, q)

        times : (a b p l : ℕ) → a * p ≤ b * p + b + a → a * l * p ≤ b * l * p + b * l + a * l
        times a b p l q =
            le_trans (le_of_eq (mul_right_comm a l p))
            (le_trans (mul-le-mul_right l q) (le_of_eq (spread (b * p) b a l ∙ ap (λ (x : ℕ). x + b * l + a * l) (mul_right_comm b p l))))
          where
            spread : (x y z w : ℕ) → (x + y + z) * w ≡ x * w + y * w + z * w
            spread x y z w = omega arith

        go : M * 2 ^ 53 ≤ to53 M * 2 ^ 53 + M → to53 M ≤ to53 (t * t * 255 * 2 ^ 912)
            → to53 (t * t * 255 * 2 ^ 912) * 2 ^ 53 ≤ t * t * 255 * 2 ^ 912 * 2 ^ 53 + t * t * 255 * 2 ^ 912
            → M * 2 ^ 1074 * 2 ^ 53 ≤ 255 * (t * t * 2 ^ 1986) * 2 ^ 53 + 255 * (t * t * 2 ^ 1986) + M * 2 ^ 1074
        go x z w =
            subst (λ (k : ℕ). M * 2 ^ 1074 * 2 ^ 53 ≤ k * 2 ^ 53 + k + M * 2 ^ 1074) limit
            (times M (t * t * 255 * 2 ^ 912) (2 ^ 53) (2 ^ 1074) (chain M (t * t * 255 * 2 ^ 912) (to53 M) (to53 (t * t * 255 * 2 ^ 912)) (2 ^ 53) x z w))

    r_off : Off (2 ^ 53) r R
    r_off = subst (λ (x : ℕ). Off (2 ^ 53) x R) is (kept_off binary64 R)

  SU_least : 2 ^ 52 * U ≤ S * U
  SU_least = mul-le-mul_right U S_least

  SU_most : S * U ≤ 2 ^ 53 * U
  SU_most = mul-le-mul_right U (le_of_lt S_most)

  -- a rest so small that it does not matter, or one of which the digits are far enough up
  R-below : Tested y s g → 1024 * R ≤ 1023 * (S * U) + 2048 * U
  R-below tested = elim (under_or_from R (2 ^ 1000)) [ inl l ↦ rest_small U R (S * U) l SU_least | inr l ↦ large l (above l) ]
    where
      above : 2 ^ 1000 ≤ R → 1000 < size R
      above l = lt_of_not-le (λ (q : size R ≤ 1000). not-le_of_lt (lt_of_lt_of_le (size-lt R) (pow_mono q)) l)

      places : (z : ℕ) → 1000 < z → z - 53 ≡ 537 + (z - 590)
      places z q = omega (arith, q)

      large : 2 ^ 1000 ≤ R → 1000 < size R → 1024 * R ≤ 1023 * (S * U) + 2048 * U
      large l q =
          let i = size R - 590 in
          let κ = closest R (2 ^ (537 + i)) in
          let is : to53 R ≡ κ * 2 ^ (537 + i) = ap (λ (k : ℕ). closest R (2 ^ k) * 2 ^ k) (places (size R) q) in
          rest_of U R (κ * 2 ^ (537 + i)) (S * U) (r_off tested i κ is) (r_below tested i κ is) SU_most

  -- ---- the root
  N_near : Within (C * H * 2 ^ 971) (C * (S + h) * U) (C * U)
  N_near = (
    le_trans (le_of_eq as_twice) (le_trans (mul-le-mul_right U (mul-le-mul_left C H_near.0)) (le_of_eq (once C (S + h) U))),
    le_trans (mul-le-mul_right U (mul-le-mul_left C H_near.1)) (le_of_eq (once C (H * 2) U ∙ ap (λ (x : ℕ). x + C * U) (sym as_twice))),
  )
    where
      as_twice : C * H * 2 ^ 971 ≡ C * (H * 2) * U
      as_twice = sym (mul_assoc (C * H) 2 (2 ^ 970)) ∙ ap (λ (x : ℕ). x * U) (mul_assoc C H 2)

      once : (a b u : ℕ) → a * (b + 1) * u ≡ a * b * u + a * u
      once a b u = ap (λ (x : ℕ). x * u) (more a b) ∙ spread (a * b) a u
        where
          more : (x z : ℕ) → x * (z + 1) ≡ x * z + x
          more x z = omega arith

          spread : (x z w : ℕ) → (x + z) * w ≡ x * w + z * w
          spread x z w = omega arith

  wide : C * (S + h) * U ≤ 2 ^ 54 * (C * U)
  wide = le_trans (mul-le-mul_right U (mul-le-mul_left C both)) (le_of_eq (ap (λ (x : ℕ). x * U) (mul_comm C (2 ^ 54)) ∙ mul_assoc (2 ^ 54) C U))
    where
      both : S + h ≤ 2 ^ 54
      both = omega (arith, S_most, h-most)

  spread : (a b u : ℕ) → (a + b) * u ≡ a * u + b * u
  spread a b u = omega arith

  -- (a + c) ^ 2 is a ^ 2 + c * (a + (a + c))
  squared : (a c : ℕ) → (a + c) * (a + c) ≡ a * a + c * (a + (a + c))
  squared a c =
      spread a c (a + c) ∙ ap (λ (x : ℕ). x + c * (a + c)) (mul-add a a c)
      ∙ go (a * a) (a * c) (c * (a + c)) (c * (a + (a + c))) (mul_comm a c) (mul-add c a (a + c))
    where
      go : (x z w v : ℕ) → z ≡ c * a → v ≡ c * a + w → x + z + w ≡ x + v
      go x z w v p q = omega (arith, p, q)

  square_of : (r : Bool) (c : ℕ) → Apart r S h c → cond r (t * t * 2 ^ 1024 ≡ h * h * U + c * (S + h) * U) (h * h * U ≡ t * t * 2 ^ 1024 + c * (S + h) * U)
  square_of true c e =
      as_square ∙ ap (λ (x : ℕ). x * x * U) e ∙ ap (λ (x : ℕ). x * U) (squared h c) ∙ spread (h * h) (c * (h + (h + c))) U
      ∙ ap (λ (x : ℕ). h * h * U + c * x * U) (ap (λ (x : ℕ). h + x) (sym e) ∙ turned h S)
    where
      turned : (a b : ℕ) → a + b ≡ b + a
      turned a b = omega arith
  square_of false c e =
      ap (λ (x : ℕ). x * x * U) e ∙ ap (λ (x : ℕ). x * U) (squared S c) ∙ spread (S * S) (c * (S + (S + c))) U
      ∙ ap (λ (x : ℕ). x + c * (S + (S + c)) * U) (sym as_square) ∙ ap (λ (x : ℕ). t * t * 2 ^ 1024 + c * (S + x) * U) (sym e)

  times_of : (r : Bool) (c : ℕ) → Apart r S h c → cond r (S * U ≡ h * U + c * U) (h * U ≡ S * U + c * U)
  times_of true c e = ap (λ (x : ℕ). x * U) e ∙ spread h c U
  times_of false c e = ap (λ (x : ℕ). x * U) e ∙ spread S c U

  C_most : h < S + 2 ^ 38 → S < h + 2 ^ 38 → C ≤ 2 ^ 38
  C_most = go rc C C_apart.1.1
    where
      go : (r : Bool) (c : ℕ) → Apart r S h c → h < S + 2 ^ 38 → S < h + 2 ^ 38 → c ≤ 2 ^ 38
      go true c e p q = omega (arith, e, q)
      go false c e p q = omega (arith, e, p)

  pub settled : h < S + 2 ^ 38 → S < h + 2 ^ 38 → Tested y s g → Near n h
  settled over under tested =
      let b = near_sides U (n * 2 ^ 1022) (t * t * 2 ^ 1024) D_is.size g_d (C * H * 2 ^ 971) g_p R (C * U) (C * (S + h) * U) (h * U) (S * U)
      (h * h * U) D_is.sign rc R_is.sign
      (kept_off binary64 D_is.size) (kept_off binary64 (C * H * 2 ^ 971)) N_near wide (mul-le-mul_right U (C_most over under)) SU_least SU_most
      (R-below tested) (pow_pos 970)
      D_is.exact (times_of rc C C_apart.1.1) (square_of rc C C_apart.1.1) R_is.exact in
      record {
        above = lt_of_mul-lt-mul_right U (lt_of_lt_of_le b.0 (le_of_eq unit));
        under = le_of_mul-le-mul_right (le_trans (le_of_eq y_unit) (le_trans b.1 (le_of_eq (sym (spread (h * h) h U))))) (pow_pos 970);
      }
    where
      y_unit : n * 2 ^ 52 * U ≡ n * 2 ^ 1022
      y_unit = mul_assoc n (2 ^ 52) (2 ^ 970)

      unit : n * 2 ^ 1022 + h * U ≡ (n * 2 ^ 52 + h) * U
      unit = ap (λ (x : ℕ). x + h * U) (sym y_unit) ∙ sym (spread (n * 2 ^ 52) h U)
