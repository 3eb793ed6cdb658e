-- Sums, differences and products of values given in units, as the exact result to prec digits, where that is far below the infinities. Assumes nothing.
use Rattle.std.proofs.Common.{◌≡◌, ℕ, suc, ◌+◌, ◌-◌, ◌*◌, ◌^◌, ◌<◌, ◌≤◌, Bool, true, false, cond, not, ◌&&◌, T, ltb, sym, ap, ◌∙◌, subst, inl, inr, zero-le, le_trans, lt_of_le_of_lt, le_of_lt, mul-le-mul_right, mul_assoc, eq-zero-or-pos, mul-le-mul_left, mul-pos, zero-mul, mul_right_comm, le_of_mul-le-mul_right, arith, ltb→lt, nltb→le, pow_pos, pow_mono}
use native.Mathlib.Nat.{mul-mul-mul_comm, eq_of_mul-eq-mul_right}
use lib.Ieee.{Float, nan, inf, fin, Format, prec, emax, low, up, down, unlike, round, sum, add, sub, mul, neg, le}
use lib.Ieee.Exact.{HasValue, units_val}
use lib.Ieee.Fits.{two, two-le_pos, down_pos}
use lib.Ieee.Nearest.{closest}
use lib.Ieee.Positive.{positive_of_value, values_of_le}
use Rattle.binary64.proofs.Parts.{gap}
use Rattle.binary64.proofs.Grid.{cut, grid, Short, relative, nearest_short}
use Rattle.binary64.proofs.Value.{round_at}
use Rattle.binary64.proofs.Addition.{add_is, sub_is, le_is, over_left, over_right}

-- ---- n to p digits, by the error

-- g is within n / P of n
pub record Off (P g n : ℕ) : Type 0 where
  pub under : n * P ≤ g * P + n
  pub over : g * P ≤ n * P + n

off_of : (P g n : ℕ) → gap g n * P ≤ n → Off P g n
off_of P g n h =
    let up : g * P ≤ (n + (g - n)) * P = mul-le-mul_right P (split g n) in
    let down : n * P ≤ (g + (n - g)) * P = mul-le-mul_right P (split n g) in
    record { under = less (g - n) (n - g) h down; over = more (g - n) (n - g) h up }
  where
    split : (x y : ℕ) → x ≤ y + (x - y)
    split x y = omega arith

    less : (a b : ℕ) → (a + b) * P ≤ n → n * P ≤ (g + b) * P → n * P ≤ g * P + n
    less a b i j = omega (arith, i, j)

    more : (a b : ℕ) → (a + b) * P ≤ n → g * P ≤ (n + a) * P → g * P ≤ n * P + n
    more a b i j = omega (arith, i, j)

module _ (f : Format) where
  abbrev P : ℕ
  P = 2 ^ prec f

  abbrev L : ℕ
  L = 2 ^ low f

  abbrev pub kept : ℕ → ℕ
  kept n = grid (prec f) n

  some : 0 < prec f
  some = two-le_pos (prec f) (two f)

  pub kept_off : (n : ℕ) → Off P (kept n) n
  kept_off n = off_of P (kept n) n (relative (prec f) n some)

  pub kept_short : (n : ℕ) → Short (prec f) n → kept n ≡ n
  kept_short n S = same (kept n) n (nearest_short (prec f) n n some S)
    where
      same : (a b : ℕ) → gap a b ≤ gap b b → a ≡ b
      same a b h = omega (arith, h)

  pub kept_le : (n : ℕ) → kept n ≤ n + n
  kept_le n = le_of_mul-le-mul_right (le_trans (kept_off n).over (room n P (pow_pos (prec f)))) (pow_pos (prec f))
    where
      room : (a b : ℕ) → 0 < b → a * b + a ≤ (a + a) * b
      room a b h = let k : a * 1 ≤ a * b = mul-le-mul_left a h in omega (arith, k)

  pub kept_pos : (n : ℕ) → 0 < n → 0 < kept n
  kept_pos n h = elim (eq-zero-or-pos (kept n)) [ inl z ↦ absurd (none (kept n) P z (two-pow (prec f) some) (kept_off n).under) | inr p ↦ p ]
    where
      two-pow : (a : ℕ) → 0 < a → 2 ≤ 2 ^ a
      two-pow a l = pow_mono l

      none : (k p : ℕ) → k ≡ 0 → 2 ≤ p → n * p ≤ k * p + n → ⊥
      none k p z l i =
          let a : k * p ≡ 0 = ap (λ (x : ℕ). x * p) z ∙ zero-mul p in
          let b : n * 2 ≤ n * p = mul-le-mul_left n l in
          omega (arith, a, b, i, h)

  -- ---- below half of the format's end nothing becomes an infinity
  abbrev pub Small : ℕ → Type 0
  Small n = n + n < 2 ^ (low f + suc (emax f))

  round_value : (s : Bool) (a c n : ℕ) → 0 < c → a * L ≡ n * c → Small n → HasValue (round f s a c) s (kept n) L
  round_value s a c n C e h =
      let k = cut (prec f) n in
      subst (λ (x : Float). HasValue x s (kept n) L) (sym (round_at f s a c n C e)) (units_val f s (closest n (2 ^ k)) k (lt_of_le_of_lt (kept_le n) h))

  pub neg_value : (x : Float) (s : Bool) (X : ℕ) → HasValue x s X L → HasValue (neg x) (not s) X L
  unfolding neg
  neg_value nan s X v = absurd v
  neg_value (inf t) s X v = absurd v
  neg_value (fin t m e) s X v = (ap not v.0, v.1)

  -- ---- products
  pub mul_value : (x y : Float) (s t : Bool) (X Y N : ℕ) → HasValue x s X L → HasValue y t Y L → X * Y ≡ N * L → Small N
      → HasValue (mul f x y) (unlike s t) (kept N) L
  unfolding mul
  mul_value nan y s t X Y N v w q h = absurd v
  mul_value (inf a) y s t X Y N v w q h = absurd v
  mul_value (fin a m e) nan s t X Y N v w q h = absurd w
  mul_value (fin a m e) (inf b) s t X Y N v w q h = absurd w
  mul_value (fin a m e) (fin b n d) s t X Y N v w q h =
      subst (λ (o : Bool). HasValue (round f (unlike a b) (m * up e * (n * up d)) (down e * down d)) o (kept N) L)
      (ap (λ (o : Bool). unlike o b) v.0 ∙ ap (λ (o : Bool). unlike s o) w.0)
      (round_value (unlike a b) (m * up e * (n * up d)) (down e * down d) N (mul-pos (down_pos e) (down_pos d))
      (eq_of_mul-eq-mul_right L (pow_pos (low f)) (m * up e * (n * up d) * L) (N * (down e * down d))
      (mul_assoc (m * up e * (n * up d)) L L
      ∙ mul-mul-mul_comm (m * up e) (n * up d) L L
      ∙ ap (λ (z : ℕ). z * (n * up d * L)) v.1
      ∙ ap (λ (z : ℕ). X * down e * z) w.1
      ∙ mul-mul-mul_comm X (down e) Y (down d)
      ∙ ap (λ (z : ℕ). z * (down e * down d)) q
      ∙ mul_right_comm N L (down e * down d))) h)

  -- ---- sums
  -- ±X ± Y is ±N, by the signs: the parts above zero on the one side, those below it on the other
  abbrev pub Signed : Bool → ℕ → Bool → ℕ → Bool → ℕ → Type 0
  Signed s X t Y r N = cond r 0 N + (cond s X 0 + cond t Y 0) ≡ cond r N 0 + (cond s 0 X + cond t 0 Y)

  pub record Sum (x : Float) (s : Bool) (X : ℕ) (t : Bool) (Y : ℕ) : Type 0 where
    pub sign : Bool
    pub size : ℕ
    pub exact : Signed s X t Y sign size
    pub value : HasValue x sign (kept size) L

  -- the exact sum is no larger than both together
  pub at_most : (x : Float) (s : Bool) (X : ℕ) (t : Bool) (Y : ℕ) (z : Sum x s X t Y) → z.size ≤ X + Y
  at_most x s X t Y z = go z.sign s t z.size z.exact
    where
      go : (r s t : Bool) (n : ℕ) → Signed s X t Y r n → n ≤ X + Y
      go true true true n e = omega (arith, e)
      go true true false n e = omega (arith, e)
      go true false true n e = omega (arith, e)
      go true false false n e = omega (arith, e)
      go false true true n e = omega (arith, e)
      go false true false n e = omega (arith, e)
      go false false true n e = omega (arith, e)
      go false false false n e = omega (arith, e)

  module _ (a b c X Y : ℕ) (C : 0 < c) (p : a * L ≡ X * c) (q : b * L ≡ Y * c) (h : Small (X + Y)) where
    fewer : (u v : ℕ) → Small (u + v) → Small (u - v)
    fewer u v l = lt_of_le_of_lt (drop u v) l
      where
        drop : (i j : ℕ) → i - j + (i - j) ≤ i + j + (i + j)
        drop i j = omega arith

    turned : Small (Y + X)
    turned = subst Small (both X Y) h
      where
        both : (i j : ℕ) → i + j ≡ j + i
        both i j = omega arith

    alike : (s : Bool) → Sum (round f s (a + b) c) s X s Y
    alike s = record { sign = s; size = X + Y; exact = go s; value = round_value s (a + b) c (X + Y) C (add_is a b c X Y L p q) h }
      where
        go : (o : Bool) → Signed o X o Y o (X + Y)
        go true = omega arith
        go false = omega arith

    right : (s : Bool) → a ≤ b → Sum (round f (not s) (b - a) c) s X (not s) Y
    right s l =
        record {
          sign = not s;
          size = Y - X;
          exact = go s (le_is a b c X Y L C p q l);
          value = round_value (not s) (b - a) c (Y - X) C
              (sub_is a b c X Y L p q) (fewer Y X turned);
        }
      where
        go : (o : Bool) → X ≤ Y → Signed o X (not o) Y (not o) (Y - X)
        go true k = omega (arith, k)
        go false k = omega (arith, k)

    left : (s : Bool) → b ≤ a → Sum (round f (s && ltb b a) (a - b) c) s X (not s) Y
    left s l =
        record {
          sign = s && ltb b a;
          size = X - Y;
          exact = go s (ltb b a) (nltb→le b a);
          value = round_value (s && ltb b a) (a - b) c (X - Y) C
              (sub_is b a c Y X L q p) (fewer X Y h);
        }
      where
        under : Y ≤ X
        under = le_is b a c Y X L C q p l

        go : (o x : Bool) → (T (not x) → a ≤ b) → Signed o X (not o) Y (o && x) (X - Y)
        go true true k = omega (arith, under)
        go true false k = let m = le_is a b c X Y L C p q (k tt) in omega (arith, under, m)
        go false x k = omega (arith, under)

    sum_value : (s t : Bool) → Sum (sum f s a t b c) s X t Y
    unfolding sum
    sum_value true true = alike true
    sum_value false false = alike false
    sum_value true false = go (ltb a b) (ltb→lt a b) (nltb→le a b)
      where
        go : (x : Bool) → (T x → a < b) → (T (not x) → b ≤ a) → Sum (cond x (round f false (b - a) c) (round f (ltb b a) (a - b) c)) true X false Y
        go true k l = right true (le_of_lt (k tt))
        go false k l = left true (l tt)
    sum_value false true = go (ltb a b) (ltb→lt a b) (nltb→le a b)
      where
        go : (x : Bool) → (T x → a < b) → (T (not x) → b ≤ a) → Sum (cond x (round f true (b - a) c) (round f false (a - b) c)) false X true Y
        go true k l = right false (le_of_lt (k tt))
        go false k l = left false (l tt)

  pub add_value : (x y : Float) (s t : Bool) (X Y : ℕ) → HasValue x s X L → HasValue y t Y L → Small (X + Y) → Sum (add f x y) s X t Y
  unfolding add
  add_value nan y s t X Y v w h = absurd v
  add_value (inf a) y s t X Y v w h = absurd v
  add_value (fin a m e) nan s t X Y v w h = absurd w
  add_value (fin a m e) (inf b) s t X Y v w h = absurd w
  add_value (fin a m e) (fin b n d) s t X Y v w h =
      subst (λ (o : Bool). Sum (sum f a (m * up e * down d) b (n * up d * down e) (down e * down d)) o X t Y) v.0
      (subst (λ (o : Bool). Sum (sum f a (m * up e * down d) b (n * up d * down e) (down e * down d)) a X o Y) w.0
      (sum_value (m * up e * down d) (n * up d * down e) (down e * down d) X Y (mul-pos (down_pos e) (down_pos d))
      (over_left (m * up e) (down e) (down d) X L v.1) (over_right (n * up d) (down e) (down d) Y L w.1) h a b))

  pub sub_value : (x y : Float) (s t : Bool) (X Y : ℕ) → HasValue x s X L → HasValue y t Y L → Small (X + Y) → Sum (sub f x y) s X (not t) Y
  unfolding sub
  sub_value x y s t X Y v w h = add_value x (neg y) s (not t) X Y v (neg_value y t Y w) h

  -- ---- the order of two values that are not below zero
  pub le_value : (x y : Float) (X Y : ℕ) → HasValue x false X L → HasValue y false Y L → 0 < Y → T (le x y) → X ≤ Y
  le_value x y X Y v w h l =
      elim (eq-zero-or-pos X) [
        | inl z ↦ subst (λ (i : ℕ). i ≤ Y) (sym z) zero-le
        | inr p ↦ le_of_mul-le-mul_right (values_of_le x y X L Y L (positive_of_value x X L v p) (positive_of_value y Y L w h) v w l) (pow_pos (low f))
      ]
