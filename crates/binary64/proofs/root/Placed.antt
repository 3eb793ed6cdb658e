-- The root that the test settles (`Settled.antt`), by bit patterns: of y, of the number near its root and of the root,
-- and back to the pattern that y was brought from. Assumes nothing.
use Rattle.std.proofs.Common.{◌≡◌, ℕ, ◌+◌, ◌-◌, ◌*◌, ◌/◌, ◌%◌, ◌^◌, ◌<◌, ◌≤◌, false, not, T, sym, refl, ap, ◌∙◌, subst, mul-le-mul_right, mul_assoc, arith, lit≤, pow-add}
use lib.Arith.{digits_mod}
use lib.Ieee.{Float, nan, inf, fin, binary64, add, sub, mul, neg, le, is_nan, of_bits}
use lib.Ieee.Exact.{odd_sign}
use Rattle.binary64.specs.Root.{nearest_root}
use Rattle.binary64.specs.Significand.{Near, Start, RootBits, rest, margin}
use Rattle.binary64.proofs.root.Settled.{Value, Tested, settled}
use Rattle.binary64.proofs.root.Rounding.{near_low, near_high, scaled_is, of_bits-at, doubled}

-- what passes the test is a number
add-nan : (x : Float) → add binary64 x nan ≡ nan
unfolding add
add-nan nan = refl
add-nan (inf s) = refl
add-nan (fin s m e) = refl

rest-nan : (y s : Float) → rest y s nan ≡ nan
unfolding sub add mul neg
rest-nan y s = add-nan (sub binary64 y (mul binary64 s s))

nan_fails : (u : Float) → T (le (mul binary64 nan nan) u) → ⊥
unfolding le mul
nan_fails u t = t

pub tested_number : (y s g : Float) → Tested y s g → T (not (is_nan g))
unfolding is_nan
tested_number y s nan t =
    nan_fails (mul binary64 (mul binary64 s s) margin)
    (subst (λ (r : Float). T (le (mul binary64 r r) (mul binary64 (mul binary64 s s) margin))) (rest-nan y s) t)
tested_number y s (inf o) t = tt
tested_number y s (fin o m e) t = tt

value_at : (h k : ℕ) → 2 ^ 52 ≤ h → h < 2 ^ 53 → k ≤ 2045 → Value (of_bits binary64 (k * 2 ^ 52 + h)) false (h * 2 ^ k)
value_at h k lo hi kl = subst (λ (x : Float). Value x false (h * 2 ^ k)) (sym (of_bits-at h k lo hi kl)) (odd_sign 54 false h k 1074)

-- y is from 1 up to 4
y_value : (b a o : ℕ) → 2 ^ 52 ≤ a → a < 2 ^ 53 → o < 2 → b ≡ (1022 + o) * 2 ^ 52 + a → Value (of_bits binary64 b) false ((a + o * a) * 2 ^ 1022)
y_value b a o lo hi l e =
    subst (λ (k : ℕ). Value (of_bits binary64 b) false k) scaled
    (subst (λ (k : ℕ). Value (of_bits binary64 k) false (a * 2 ^ (1022 + o))) (sym e) (value_at a (1022 + o) lo hi (omega (arith, l))))
  where
    scaled : a * 2 ^ (1022 + o) ≡ (a + o * a) * 2 ^ 1022
    scaled =
        ap (λ (x : ℕ). a * x) (ap (λ (x : ℕ). 2 ^ x) (turned 1022 o) ∙ pow-add 2 o 1022) ∙ sym (mul_assoc a (2 ^ o) (2 ^ 1022))
        ∙ ap (λ (x : ℕ). x * 2 ^ 1022) (sym (doubled a o l))
      where
        turned : (i j : ℕ) → i + j ≡ j + i
        turned i j = omega arith

module _ (b near r : ℕ) (lo : 0x3ff0_0000_0000_0000 ≤ b) (hi : b < 0x4010_0000_0000_0000) (st : Start near) (close : r / 2 ^ 38 ≡ near / 2 ^ 38) where
  abbrev a : ℕ
  a = b % 2 ^ 52 + 2 ^ 52

  abbrev o : ℕ
  o = b / 2 ^ 52 - 1023

  abbrev d : ℕ
  d = st.digits

  near_is : near ≡ 1022 * 2 ^ 52 + d * 2 ^ 27
  near_is = st.pattern

  -- r has the leading digits of `near`
  r_above : 1022 * 2 ^ 52 + 2 ^ 52 ≤ r
  r_above = go st.least near_is
    where
      go : 2 ^ 25 ≤ d → near ≡ 1022 * 2 ^ 52 + d * 2 ^ 27 → 1022 * 2 ^ 52 + 2 ^ 52 ≤ r
      go l e = omega (arith, l, e, close)

  r_under : r < 1022 * 2 ^ 52 + 2 ^ 53
  r_under = go st.most near_is
    where
      go : d < 2 ^ 26 → near ≡ 1022 * 2 ^ 52 + d * 2 ^ 27 → r < 1022 * 2 ^ 52 + 2 ^ 53
      go l e = omega (arith, l, e, close)

  pub root_bits : Tested (of_bits binary64 b) (of_bits binary64 near) (of_bits binary64 r) → RootBits b r
  root_bits tested =
      let h = r - 1022 * 2 ^ 52 in
      let is : r ≡ 1022 * 2 ^ 52 + h = whole r (1022 * 2 ^ 52) r_above in
      let h-least : 2 ^ 52 ≤ h = omega (arith, r_above) in
      let h-most : h < 2 ^ 53 = omega (arith, r_under, r_above) in
      let ol : o < 2 = omega (arith, lo, hi) in
      let once : o * a ≤ 1 * a = mul-le-mul_right a (omega (arith, ol)) in
      let al : a < 2 ^ 53 = omega arith in
      record {
        digits = h;
        pattern = is;
        near =
            settled (a + o * a) d h (of_bits binary64 b) (of_bits binary64 near) (of_bits binary64 r) st.least st.most h-least h-most (omega (arith, once, al))
            (y_value b a o (omega arith) al ol (omega (arith, lo, hi)))
            (subst (λ (k : ℕ). Value (of_bits binary64 k) false (d * 2 ^ 27 * 2 ^ 1022)) (sym near_is)
            (value_at (d * 2 ^ 27) 1022 (digits_least st.least) (digits_most st.most) (lit≤ tt)))
            (subst (λ (k : ℕ). Value (of_bits binary64 k) false (h * 2 ^ 1022)) (sym is) (value_at h 1022 h-least h-most (lit≤ tt)))
            (over h is near_is) (under h is near_is) tested;
      }
    where
      whole : (x y : ℕ) → y + 2 ^ 52 ≤ x → x ≡ y + (x - y)
      whole x y l = omega (arith, l)

      digits_least : 2 ^ 25 ≤ d → 2 ^ 52 ≤ d * 2 ^ 27
      digits_least l = omega (arith, l)

      digits_most : d < 2 ^ 26 → d * 2 ^ 27 < 2 ^ 53
      digits_most l = omega (arith, l)

      over : (h : ℕ) → r ≡ 1022 * 2 ^ 52 + h → near ≡ 1022 * 2 ^ 52 + d * 2 ^ 27 → h < d * 2 ^ 27 + 2 ^ 38
      over h e f = omega (arith, e, f, close)

      under : (h : ℕ) → r ≡ 1022 * 2 ^ 52 + h → near ≡ 1022 * 2 ^ 52 + d * 2 ^ 27 → d * 2 ^ 27 < h + 2 ^ 38
      under h e f = omega (arith, e, f, close)

pub start_most : (r : ℕ) → Start r → r ≤ 0x7ff0_0000_0000_0000
start_most r st = go st.digits st.most st.pattern
  where
    go : (d : ℕ) → d < 2 ^ 26 → r ≡ 1022 * 2 ^ 52 + d * 2 ^ 27 → r ≤ 0x7ff0_0000_0000_0000
    go d l e = omega (arith, l, e)

pub start_of : (b : ℕ) → Start (b % 2 ^ 52 / 2 ^ 27 * 2 ^ 27 + 0x3ff0_0000_0000_0000)
start_of b = record { digits = b % 2 ^ 52 / 2 ^ 27 + 2 ^ 25; least = omega arith; most = omega arith; pattern = omega arith }

-- ---- back from the root of y to that of the whole number's pattern b

-- r is the pattern of the root of the float that b is brought to by an even power of two
pub record Placed (b r : ℕ) : Type 0 where
  pub least : 1023 * 2 ^ 52 ≤ r
  pub above : r < 1024 * 2 ^ 52
  pub root : of_bits binary64 ((b + 2 ^ 52) / 2 ^ 53 * 2 ^ 52 + r - 0x2000_0000_0000_0000)
      ≡ nearest_root binary64 ((b % 2 ^ 52 + 2 ^ 52) * 2 ^ (b / 2 ^ 52 + 1073))

-- an exponent's parity is the last digit of what is left of it
parity_of : (b : ℕ) → ((b + 2 ^ 52) % 2 ^ 53 + 0x3ff0_0000_0000_0000) / 2 ^ 52 - 1023 ≡ (b / 2 ^ 52 + 1073) % 2
parity_of b = go (b / 2 ^ 52) (b % 2 ^ 52) (omega arith) (omega arith)
  where
    small : (m i : ℕ) → i < 2 ^ 52 → m < 2 → m * 2 ^ 52 + i < 2 ^ 53
    small m i l k = omega (arith, l, k)

    lower : (m i : ℕ) → i < 2 ^ 52 → (m * 2 ^ 52 + i + 0x3ff0_0000_0000_0000) / 2 ^ 52 - 1023 ≡ m
    lower m i l = omega (arith, l)

    same : (q : ℕ) → (q + 1) % 2 ≡ (q + 1073) % 2
    same q = omega arith

    go : (q i : ℕ) → b ≡ q * 2 ^ 52 + i → i < 2 ^ 52 → ((b + 2 ^ 52) % 2 ^ 53 + 0x3ff0_0000_0000_0000) / 2 ^ 52 - 1023 ≡ (q + 1073) % 2
    go q i e l =
        let m = (q + 1) % 2 in
        let parts : b + 2 ^ 52 ≡ (q + 1) / 2 * 2 ^ 53 + (m * 2 ^ 52 + i) = omega (arith, e) in
        let left : (b + 2 ^ 52) % 2 ^ 53 ≡ m * 2 ^ 52 + i = ap (λ (x : ℕ). x % 2 ^ 53) parts ∙ digits_mod ((q + 1) / 2) (small m i l (omega arith)) in
        ap (λ (x : ℕ). (x + 0x3ff0_0000_0000_0000) / 2 ^ 52 - 1023) left ∙ lower m i l ∙ same q

pub placed : (b r : ℕ) → 2 ^ 52 ≤ b → b < 0x7ff0_0000_0000_0000 → RootBits ((b + 2 ^ 52) % 2 ^ 53 + 0x3ff0_0000_0000_0000) r → Placed b r
placed b r lo hi s =
    let y = (b + 2 ^ 52) % 2 ^ 53 + 0x3ff0_0000_0000_0000 in
    let a = b % 2 ^ 52 + 2 ^ 52 in
    let e = b / 2 ^ 52 + 1073 in
    let same : y % 2 ^ 52 + 2 ^ 52 ≡ a = omega arith in
    let parity : y / 2 ^ 52 - 1023 ≡ e % 2 = parity_of b in
    let near : Near (a + e % 2 * a) s.digits = subst (λ (k : ℕ). Near (k + e % 2 * k) s.digits) same
    (subst (λ (k : ℕ). Near (y % 2 ^ 52 + 2 ^ 52 + k * (y % 2 ^ 52 + 2 ^ 52)) s.digits) parity s.near) in
    let al : a < 2 ^ 53 = omega arith in
    let once : e % 2 * a ≤ 1 * a = mul-le-mul_right a (omega arith) in
    let least : 2 ^ 52 ≤ s.digits = near_low (a + e % 2 * a) s.digits (omega arith) near in
    let most : s.digits < 2 ^ 53 = near_high (a + e % 2 * a) s.digits (omega (arith, once, al)) near in
    let there : (b + 2 ^ 52) / 2 ^ 53 * 2 ^ 52 + r - 0x2000_0000_0000_0000 ≡ (e - 52) / 2 * 2 ^ 52 + s.digits = pattern b r s.digits lo s.pattern in
    record {
      least = low r s.digits s.pattern least;
      above = high r s.digits s.pattern most;
      root = ap (of_bits binary64) there ∙ scaled_is a e s.digits (omega arith) al (omega arith) (omega (arith, hi)) near;
    }
  where
    low : (r d : ℕ) → r ≡ 1022 * 2 ^ 52 + d → 2 ^ 52 ≤ d → 1023 * 2 ^ 52 ≤ r
    low r d e l = omega (arith, e, l)

    high : (r d : ℕ) → r ≡ 1022 * 2 ^ 52 + d → d < 2 ^ 53 → r < 1024 * 2 ^ 52
    high r d e l = omega (arith, e, l)

    pattern : (b r d : ℕ) → 2 ^ 52 ≤ b → r ≡ 1022 * 2 ^ 52 + d
        → (b + 2 ^ 52) / 2 ^ 53 * 2 ^ 52 + r - 0x2000_0000_0000_0000 ≡ (b / 2 ^ 52 + 1073 - 52) / 2 * 2 ^ 52 + d
    pattern b r d l e = omega (arith, l, e)
