-- The square root of what a bit pattern of binary64 stands for. Assumes nothing.
use Rattle.std.proofs.Common.{◌≡◌, ℕ, zero, suc, ◌+◌, ◌-◌, ◌*◌, ◌/◌, ◌%◌, ◌^◌, ◌<◌, ◌≤◌, Bool, true, false, cond, not, ◌&&◌, ◌||◌, T, eqb, ltb, leb, ◌⊎◌, ℤ, sym, refl, ap, ◌∙◌, subst, inl, inr, true≢false, le_trans, le_of_eq, lt_of_lt_of_le, le_of_lt, lt_irrefl, mul-le-mul_right, mod-eq_of_lt, zero-lt-suc, mul_assoc, eq-zero-or-pos, eq-or-lt_of_le, mul-pos, lt_of_not-le, zero-mul, mul-one, mul_right_comm, not-le_of_lt, mul-div_cancel, arith, lit≤, le→leb, eqb→eq, ltb→lt, leb→le, nltb→le, pow_pos, pow_mono, pow-add, shl_lt}
use mathlib.Core.Bool.{false≢true}
use lib.Dec.{not_T}
use lib.Count.{count_leading_zeros, leading_top}
use lib.Ieee.{Float, nan, inf, fin, binary64, fits, is_nan, up, down, odd, le, lt, eq, of_fields, of_bits, to_bits}
use lib.Ieee.Scale.{finite}
use lib.Ieee.Bits.{is_true, is_false, cond_no, of_bits-to_bits, to_bits-lt, nan_bits_is, nan_bits_above}
use lib.Ieee.Fits.{and_i, eq→eqb, up_pos, down_pos}
use lib.Ieee.Exact.{HasValue, odd_sign}
use Rattle.binary64.specs.Numbers.{is_usable}
use Rattle.binary64.specs.Root.{root, root_in, nearest_root}

-- ---- by a value's size

no_zero : (e : ℤ) (a : ℕ) → 0 < a → zero * up e * 2 ^ 1074 ≡ a * down e → ⊥
no_zero e a p h = lt_irrefl 0 (subst (λ (x : ℕ). 0 < x) (sym h ∙ ap (λ (x : ℕ). x * 2 ^ 1074) (zero-mul (up e)) ∙ zero-mul (2 ^ 1074)) (mul-pos p (down_pos e)))

pub root-positive : (x : Float) (a : ℕ) → 0 < a → HasValue x false a (2 ^ 1074) → root x ≡ nearest_root binary64 (a * 2 ^ 1074)
unfolding root_in
root-positive nan a p v = absurd v
root-positive (inf s) a p v = absurd v
root-positive (fin true m e) a p v = absurd (true≢false v.0)
root-positive (fin false zero e) a p v = absurd (no_zero e a p v.1)
root-positive (fin false (suc m) e) a p v =
    ap (nearest_root binary64)
    (ap (λ (x : ℕ). x * 2 ^ 1074 / down e) v.1 ∙ ap (λ (x : ℕ). x / down e) (mul_right_comm a (down e) (2 ^ 1074))
    ∙ mul-div_cancel (a * 2 ^ 1074) (down_pos e))

root_negative : (x : Float) (a : ℕ) → 0 < a → HasValue x true a (2 ^ 1074) → root x ≡ nan
unfolding root_in
root_negative nan a p v = absurd v
root_negative (inf s) a p v = absurd v
root_negative (fin false m e) a p v = absurd (false≢true v.0)
root_negative (fin true zero e) a p v = absurd (no_zero e a p v.1)
root_negative (fin true (suc m) e) a p v = refl

-- ---- by the fields

of_bits_is : (b : ℕ) → of_bits binary64 b ≡ of_fields binary64 (leb (2 ^ 63) b) (b % 2 ^ 63 / 2 ^ 52) (b % 2 ^ 52)
unfolding of_bits
of_bits_is b = refl

-- a pattern whose sign's bit is 0
unsigned : (b : ℕ) → b < 2 ^ 63 → of_bits binary64 b ≡ of_fields binary64 false (b / 2 ^ 52) (b % 2 ^ 52)
unsigned b h =
    of_bits_is b
    ∙ ap (λ (s : Bool). of_fields binary64 s (b % 2 ^ 63 / 2 ^ 52) (b % 2 ^ 52))
    (is_false (leb (2 ^ 63) b) (not_T (leb (2 ^ 63) b) (λ (u : T (leb (2 ^ 63) b)). not-le_of_lt h (leb→le (2 ^ 63) b u))))
    ∙ ap (λ (x : ℕ). of_fields binary64 false (x / 2 ^ 52) (b % 2 ^ 52)) (mod-eq_of_lt h)

low_field : (t : ℕ) → of_fields binary64 false 0 t ≡ odd 53 false t 0 1074
unfolding of_fields
low_field t = refl

mid_field : (x t : ℕ) → suc x < 2047 → of_fields binary64 false (suc x) t ≡ odd 53 false (2 ^ 52 + t) x 1074
unfolding of_fields
mid_field x t h =
    cond_no (eqb (suc x) 2047) (cond (eqb t 0) (inf false) nan) (odd 53 false (2 ^ 52 + t) x 1074)
    (not_T (eqb (suc x) 2047) (λ (u : T (eqb (suc x) 2047)). differ (eqb→eq (suc x) 2047 u)))
  where
    differ : suc x ≡ 2047 → ⊥
    differ e = omega arith

-- ---- the root of a normal value, and of a subnormal one

-- x is a smallest values, and w squares of the smallest value
pub record Positive (x : Float) (w : ℕ) : Type 0 where
  pub a : ℕ
  pub some : 0 < a
  pub value : HasValue x false a (2 ^ 1074)
  pub squares : a * 2 ^ 1074 ≡ w

pub root_of : (x : Float) (w : ℕ) → Positive x w → root x ≡ nearest_root binary64 w
root_of x w p = root-positive x p.a p.some p.value ∙ ap (nearest_root binary64) p.squares

pub normal_is : (b : ℕ) → 2 ^ 52 ≤ b → b < 0x7ff0_0000_0000_0000 → Positive (of_bits binary64 b) ((b % 2 ^ 52 + 2 ^ 52) * 2 ^ (b / 2 ^ 52 + 1073))
normal_is b lo hi =
    let x = b / 2 ^ 52 - 1 in
    let t = b % 2 ^ 52 in
    let is : of_bits binary64 b ≡ odd 53 false (2 ^ 52 + t) x 1074 = unsigned b (omega arith) ∙ ap (λ (y : ℕ). of_fields binary64 false y t) (field b lo)
    ∙ mid_field x t (omega arith) in
    record {
      a = (2 ^ 52 + t) * 2 ^ x;
      some = mul-pos (omega arith) (pow_pos x);
      value = subst (λ (v : Float). HasValue v false ((2 ^ 52 + t) * 2 ^ x) (2 ^ 1074)) (sym is) (odd_sign 53 false (2 ^ 52 + t) x 1074);
      squares = mul_assoc (2 ^ 52 + t) (2 ^ x) (2 ^ 1074)
          ∙ ap (λ (y : ℕ). (2 ^ 52 + t) * y) (sym (pow-add 2 x 1074) ∙ ap (λ (y : ℕ). 2 ^ y) (exponent b lo))
          ∙ ap (λ (y : ℕ). y * 2 ^ (b / 2 ^ 52 + 1073)) (swap t);
    }
  where
    field : (c : ℕ) → 2 ^ 52 ≤ c → c / 2 ^ 52 ≡ suc (c / 2 ^ 52 - 1)
    field c h = omega arith

    exponent : (c : ℕ) → 2 ^ 52 ≤ c → c / 2 ^ 52 - 1 + 1074 ≡ c / 2 ^ 52 + 1073
    exponent c h = omega arith

    swap : (c : ℕ) → 2 ^ 52 + c ≡ c + 2 ^ 52
    swap c = omega arith

pub subnormal_is : (b z : ℕ) → 0 < b → b < 2 ^ 52 → z ≤ 1074 → Positive (of_bits binary64 b) (b * 2 ^ z * 2 ^ (1074 - z))
subnormal_is b z lo hi zl =
    let is : of_bits binary64 b ≡ odd 53 false b 0 1074 =
    unsigned b (omega arith)
    ∙ ap (λ (y : ℕ). of_fields binary64 false y (b % 2 ^ 52)) (none b hi)
    ∙ ap (λ (y : ℕ). of_fields binary64 false 0 y) (mod-eq_of_lt hi)
    ∙ low_field b in
    record {
      a = b * 2 ^ 0;
      some = mul-pos lo (pow_pos 0);
      value = subst (λ (v : Float). HasValue v false (b * 2 ^ 0) (2 ^ 1074)) (sym is) (odd_sign 53 false b 0 1074);
      squares = ap (λ (y : ℕ). y * 2 ^ 1074) (mul-one b)
          ∙ ap (λ (y : ℕ). b * y) (ap (λ (y : ℕ). 2 ^ y) (sym (whole z zl)) ∙ pow-add 2 z (1074 - z))
          ∙ sym (mul_assoc b (2 ^ z) (2 ^ (1074 - z)));
    }
  where
    none : (c : ℕ) → c < 2 ^ 52 → c / 2 ^ 52 ≡ 0
    none c h = omega arith

    whole : (c : ℕ) → c ≤ 1074 → c + (1074 - c) ≡ 1074
    whole c h = omega arith

pub normal : (b : ℕ) → 2 ^ 52 ≤ b → b < 0x7ff0_0000_0000_0000
    → root (of_bits binary64 b) ≡ nearest_root binary64 ((b % 2 ^ 52 + 2 ^ 52) * 2 ^ (b / 2 ^ 52 + 1073))
normal b lo hi = root_of (of_bits binary64 b) ((b % 2 ^ 52 + 2 ^ 52) * 2 ^ (b / 2 ^ 52 + 1073)) (normal_is b lo hi)

pub subnormal : (b z : ℕ) → 0 < b → b < 2 ^ 52 → z ≤ 1074 → root (of_bits binary64 b) ≡ nearest_root binary64 (b * 2 ^ z * 2 ^ (1074 - z))
subnormal b z lo hi zl = root_of (of_bits binary64 b) (b * 2 ^ z * 2 ^ (1074 - z)) (subnormal_is b z lo hi zl)

-- ---- a value below zero

below-zero : (x t : ℕ) → 0 < x + t → root (of_fields binary64 true x t) ≡ nan
unfolding of_fields
below-zero zero t h = root_negative (odd 53 true t 0 1074) (t * 2 ^ 0) (mul-pos (omega arith) (pow_pos 0)) (odd_sign 53 true t 0 1074)
below-zero (suc x) t h = go (eqb (suc x) 2047) (eqb t 0)
  where
    go : (p q : Bool) → root (cond p (cond q (inf true) nan) (odd 53 true (2 ^ 52 + t) x 1074)) ≡ nan
    go true true = unfold root_in in refl
    go true false = unfold root_in in refl
    go false q =
        root_negative (odd 53 true (2 ^ 52 + t) x 1074) ((2 ^ 52 + t) * 2 ^ x) (mul-pos (omega arith) (pow_pos x)) (odd_sign 53 true (2 ^ 52 + t) x 1074)

pub negative : (b : ℕ) → 2 ^ 63 < b → b < 2 ^ 64 → root (of_bits binary64 b) ≡ nan
negative b lo hi =
    ap (root) (of_bits_is b
    ∙ ap (λ (s : Bool). of_fields binary64 s (b % 2 ^ 63 / 2 ^ 52) (b % 2 ^ 52)) (is_true (leb (2 ^ 63) b) (le→leb (2 ^ 63) b (le_of_lt lo))))
    ∙ below-zero (b % 2 ^ 63 / 2 ^ 52) (b % 2 ^ 52) (omega arith)

-- ---- the others

root-nan : root nan ≡ nan
unfolding root_in
root-nan = refl

pub of_nan : (x : Float) → x ≡ nan → x ≡ root x
of_nan x e = e ∙ sym (ap (root) e ∙ root-nan)

root-zero : root (of_bits binary64 0) ≡ of_bits binary64 0
unfolding root_in of_bits
root-zero = refl

root_minus_zero : root (of_bits binary64 (2 ^ 63)) ≡ of_bits binary64 (2 ^ 63)
unfolding root_in of_bits
root_minus_zero = refl

root_inf : root (of_bits binary64 0x7ff0_0000_0000_0000) ≡ of_bits binary64 0x7ff0_0000_0000_0000
unfolding root_in of_bits
root_inf = refl

itself : (x : Float) (b n : ℕ) → of_bits binary64 b ≡ x → b ≡ n → root (of_bits binary64 n) ≡ of_bits binary64 n → x ≡ root x
itself x b n p q r = let y : x ≡ of_bits binary64 n = sym p ∙ ap (of_bits binary64) q in y ∙ sym r ∙ sym (ap (root) y)

pub of_zero : (x : Float) (b : ℕ) → of_bits binary64 b ≡ x → b ≡ 0 → x ≡ root x
of_zero x b p q = itself x b 0 p q root-zero

-- from the infinity's pattern to that of -0 no other is a number's
pub of_ends : (x : Float) (b : ℕ) → of_bits binary64 b ≡ x → T (not (is_nan x)) → 0x7ff0_0000_0000_0000 ≤ b → b ≤ 2 ^ 63 → x ≡ root x
of_ends x b p n lo hi =
    let r : b % 2 ^ 63 ≤ 0x7ff0_0000_0000_0000 = nltb→le 0x7ff0_0000_0000_0000 (b % 2 ^ 63)
    (subst (λ (t : Bool). T (not t)) (sym (ap is_nan p) ∙ sym (nan_bits_is binary64 b) ∙ nan_bits_above binary64 b) n) in
    go r (eq-or-lt_of_le hi)
  where
    least : b % 2 ^ 63 ≤ 0x7ff0_0000_0000_0000 → b < 2 ^ 63 → b ≡ 0x7ff0_0000_0000_0000
    least r l = omega arith

    go : b % 2 ^ 63 ≤ 0x7ff0_0000_0000_0000 → (b ≡ 2 ^ 63) ⊎ (b < 2 ^ 63) → x ≡ root x
    go r (inl e) = itself x b (2 ^ 63) p e root_minus_zero
    go r (inr l) = itself x b 0x7ff0_0000_0000_0000 p (least r l) root_inf

-- ---- the shift of a subnormal value's digits

pub shift_of : (b : ℕ) → 0 < b → b < 2 ^ 52
    → (12 ≤ count_leading_zeros 64 b) × (count_leading_zeros 64 b ≤ 63) × (2 ^ 52 ≤ b * 2 ^ (count_leading_zeros 64 b - 11))
    × (b * 2 ^ (count_leading_zeros 64 b - 11) < 2 ^ 53)
shift_of b lo hi =
    let l = leading_top 64 b lo (lt_of_lt_of_le hi (lit≤ tt)) in
    let z = count_leading_zeros 64 b in
    let j = l.0 in
    let e : z + suc j ≡ 64 = l.1 in
    let small : j < 52 = lt_of_not-le (λ (g : 52 ≤ j). not-le_of_lt hi (le_trans (pow_mono g) l.2)) in
    let twelve : 12 ≤ z = omega arith in
    let sum : j + (z - 11) ≡ 52 = omega arith in
    let more : suc j + (z - 11) ≡ 53 = omega arith in (
      twelve,
      omega arith,
      le_trans (le_of_eq (sym (sym (pow-add 2 j (z - 11)) ∙ ap (λ (x : ℕ). 2 ^ x) sum))) (mul-le-mul_right (2 ^ (z - 11)) l.2),
      lt_of_lt_of_le (shl_lt (suc j) (z - 11) l.3) (le_of_eq (ap (λ (x : ℕ). 2 ^ x) more)),
    )

-- ---- the values above zero, and their patterns

pub usable_of : (x : Float) (a : ℕ) → 0 < a → HasValue x false a (2 ^ 1074) → T (is_usable x)
unfolding le lt eq of_bits
usable_of nan a p v = absurd v
usable_of (inf s) a p v = absurd v
usable_of (fin true m e) a p v = absurd (true≢false v.0)
usable_of (fin false zero e) a p v = absurd (no_zero e a p v.1)
usable_of (fin false (suc m) e) a p v =
    let x = suc m * up e * 1 in
    let y = 0 * 1 * down e in
    let l : 0 < x = mul-pos (mul-pos (zero-lt-suc m) (up_pos e)) (pow_pos 0) in
    let z : y ≡ 0 = zero-mul (down e) in
    neither (ltb x y) (eqb x y) true (λ t. under x y l z (ltb→lt x y t)) (λ t. same x y l z (eqb→eq x y t))
  where
    neither : (i j t : Bool) → (T i → ⊥) → (T j → ⊥) → T (not (i || (j && t)))
    neither true j t f g = f tt
    neither false true t f g = absurd (g tt)
    neither false false t f g = tt

    under : (x y : ℕ) → 0 < x → y ≡ 0 → x < y → ⊥
    under x y l z h = omega arith

    same : (x y : ℕ) → 0 < x → y ≡ 0 → x ≡ y → ⊥
    same x y l z h = omega arith

not_left : (p q : Bool) → T (not (p || q)) → T (not p)
not_left false q t = tt
not_left true q t = elim t [ ]

not_right : (p q : Bool) → T (not (p || q)) → T (not q)
not_right false q t = t
not_right true q t = elim t [ ]

no_negative : (m : ℕ) (e : ℤ) → T (is_usable (fin true m e)) → ⊥
unfolding le lt eq of_bits
no_negative m e u =
    let a = m * up e * 1 in
    let b = 0 * 1 * down e in
    let p : a + b ≤ 0 = nltb→le 0 (a + b) (not_left (ltb 0 (a + b)) (eqb a b && eqb a 0) u) in
    no_T (eqb a b && eqb a 0) (not_right (ltb 0 (a + b)) (eqb a b && eqb a 0) u) (and_i (eqb a b) (eqb a 0) (eq→eqb (both a b p)) (eq→eqb (none a b p)))
  where
    none : (a b : ℕ) → a + b ≤ 0 → a ≡ 0
    none a b h = omega arith

    both : (a b : ℕ) → a + b ≤ 0 → a ≡ b
    both a b h = omega arith

    no_T : (t : Bool) → T (not t) → T t → ⊥
    no_T true f g = f
    no_T false f g = g

signed_fields : (x t m : ℕ) (e : ℤ) → of_fields binary64 true x t ≡ fin false m e → ⊥
unfolding of_fields
signed_fields zero t m e q = false≢true (subst (λ (v : Float). HasValue v true (t * 2 ^ 0) (2 ^ 1074)) q (odd_sign 53 true t 0 1074)).0
signed_fields (suc x) t m e q = go (eqb (suc x) 2047) (eqb t 0) q
  where
    go : (i j : Bool) → cond i (cond j (inf true) nan) (odd 53 true (2 ^ 52 + t) x 1074) ≡ fin false m e → ⊥
    go true true r = true≢false (sym (ap finite r))
    go true false r = true≢false (sym (ap finite r))
    go false j r = false≢true (subst (λ (v : Float). HasValue v true ((2 ^ 52 + t) * 2 ^ x) (2 ^ 1074)) r (odd_sign 53 true (2 ^ 52 + t) x 1074)).0

full_field : (t m : ℕ) (e : ℤ) → of_fields binary64 false 2047 t ≡ fin false m e → ⊥
unfolding of_fields
full_field t m e q = go (eqb t 0) q
  where
    go : (j : Bool) → cond j (inf false) nan ≡ fin false m e → ⊥
    go true r = true≢false (sym (ap finite r))
    go false r = true≢false (sym (ap finite r))

no_zero_bits : (b m : ℕ) (e : ℤ) → of_bits binary64 b ≡ fin false m e → T (is_usable (fin false m e)) → b ≡ 0 → ⊥
unfolding le lt eq of_bits
no_zero_bits b m e q u z = subst (λ (v : Float). T (is_usable v)) (sym q ∙ ap (of_bits binary64) z) u

no_high_bits : (b m : ℕ) (e : ℤ) → of_bits binary64 b ≡ fin false m e → 0x7ff0_0000_0000_0000 ≤ b → b < 2 ^ 64 → ⊥
no_high_bits b m e q lo hi = go (ltb b (2 ^ 63)) (ltb→lt b (2 ^ 63)) (nltb→le b (2 ^ 63))
  where
    full : (b : ℕ) → 0x7ff0_0000_0000_0000 ≤ b → b < 2 ^ 63 → b / 2 ^ 52 ≡ 2047
    full b h k = omega arith

    go : (c : Bool) → (T c → b < 2 ^ 63) → (T (not c) → 2 ^ 63 ≤ b) → ⊥
    go true l g = full_field (b % 2 ^ 52) m e (ap (λ (x : ℕ). of_fields binary64 false x (b % 2 ^ 52)) (sym (full b lo (l tt))) ∙ sym (unsigned b (l tt)) ∙ q)
    go false l g =
        signed_fields (b % 2 ^ 63 / 2 ^ 52) (b % 2 ^ 52) m e
        (ap (λ (s : Bool). of_fields binary64 s (b % 2 ^ 63 / 2 ^ 52) (b % 2 ^ 52)) (sym (is_true (leb (2 ^ 63) b) (le→leb (2 ^ 63) b (g tt))))
        ∙ sym (of_bits_is b) ∙ q)

pub usable_bits : (x : Float) → T (fits binary64 x) → T (is_usable x) → (0 < to_bits binary64 x) × (to_bits binary64 x < 0x7ff0_0000_0000_0000)
usable_bits nan F u = absurd u
usable_bits (inf s) F u = absurd u
usable_bits (fin true m e) F u = absurd (no_negative m e u)
usable_bits (fin false m e) F u =
    let b = to_bits binary64 (fin false m e) in
    let is = of_bits-to_bits binary64 (fin false m e) F in (
      elim (eq-zero-or-pos b) [ inl z ↦ absurd (no_zero_bits b m e is u z) | inr p ↦ p ],
      lt_of_not-le
          (λ (g : 0x7ff0_0000_0000_0000 ≤ b). no_high_bits b m e is g (to_bits-lt binary64 (fin false m e) F)),
    )
