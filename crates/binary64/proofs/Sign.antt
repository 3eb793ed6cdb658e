-- The operations and the sign: a product is odd in each factor, and a sum is odd but for the sign of a zero. Assumes nothing.
use Rattle.std.proofs.Common.{◌≡◌, ℕ, zero, suc, ◌+◌, ◌-◌, ◌*◌, ◌/◌, ◌^◌, ◌<◌, ◌≤◌, Bool, true, false, cond, not, T, eqb, ltb, ℤ, pos, negsuc, neg_ℤ, sym, refl, ap, ◌∙◌, subst, inl, inr, lt_irrefl, eq-zero-or-pos, mul-pos, one-mul, zero-mul, mul-one, arith, eqb→eq, nltb→le, pow_pos}
use native.Mathlib.Nat.{zero-div}
use lib.IntN.{neg_ℤ-neg_ℤ}
use lib.Ieee.{Float, nan, inf, fin, Format, prec, emax, low, up, down, size, unlike, odd, units as make, round, neg, sum, add, sub, mul, fits}
use lib.Ieee.Fits.{round_is, round-fits, down_pos, up_pos}
use lib.Ieee.Exact.{HasValue, round_exact}
use lib.Ieee.Scale.{finite}
use lib.Ieee.Nearest.{closest}
use Rattle.binary64.specs.Units.{count, signed_count, Zero, Alike}

-- ---- `round`
odd_neg : (d : ℕ) (s : Bool) (q k l : ℕ) → odd d (not s) q k l ≡ neg (odd d s q k l)
unfolding odd neg
odd_neg d s zero k l = refl
odd_neg d s (suc q) k l = refl

make_neg : (f : Format) (s : Bool) (q k : ℕ) → make f (not s) q k ≡ neg (make f s q k)
unfolding make neg
make_neg f s q k = go (ltb (q * 2 ^ k) (2 ^ (low f + suc (emax f))))
  where
    go : (b : Bool) → cond b (odd (suc (prec f)) (not s) q k (low f)) (inf (not s)) ≡ neg (cond b (odd (suc (prec f)) s q k (low f)) (inf s))
    go true = odd_neg (suc (prec f)) s q k (low f)
    go false = refl

pub round_neg : (f : Format) (s : Bool) (a c : ℕ) → round f (not s) a c ≡ neg (round f s a c)
round_neg f s a c =
    let n = a * 2 ^ low f in
    let k = size (n / c) - prec f in
    round_is f (not s) a c ∙ make_neg f s (closest n (c * 2 ^ k)) k ∙ ap neg (sym (round_is f s a c))

-- ---- the product
unlike_left : (s t : Bool) → unlike (not s) t ≡ not (unlike s t)
unlike_left true true = refl
unlike_left true false = refl
unlike_left false true = refl
unlike_left false false = refl

unlike_right : (s t : Bool) → unlike s (not t) ≡ not (unlike s t)
unlike_right true true = refl
unlike_right true false = refl
unlike_right false true = refl
unlike_right false false = refl

cond-neg : (b s t : Bool) → s ≡ not t → cond b nan (inf s) ≡ neg (cond b nan (inf t))
unfolding neg
cond-neg true s t e = refl
cond-neg false s t e = ap inf e

pub mul-neg_left : (f : Format) (x y : Float) → mul f (neg x) y ≡ neg (mul f x y)
unfolding mul neg
mul-neg_left f nan y = refl
mul-neg_left f (inf s) nan = refl
mul-neg_left f (inf s) (inf t) = ap inf (unlike_left s t)
mul-neg_left f (inf s) (fin t n d) = cond-neg (eqb n 0) (unlike (not s) t) (unlike s t) (unlike_left s t)
mul-neg_left f (fin s m e) nan = refl
mul-neg_left f (fin s m e) (inf t) = cond-neg (eqb m 0) (unlike (not s) t) (unlike s t) (unlike_left s t)
mul-neg_left f (fin s m e) (fin t n d) =
    ap (λ (b : Bool). round f b (m * up e * (n * up d)) (down e * down d)) (unlike_left s t)
    ∙ round_neg f (unlike s t) (m * up e * (n * up d)) (down e * down d)

pub mul-neg_right : (f : Format) (x y : Float) → mul f x (neg y) ≡ neg (mul f x y)
unfolding mul neg
mul-neg_right f nan y = refl
mul-neg_right f (inf s) nan = refl
mul-neg_right f (inf s) (inf t) = ap inf (unlike_right s t)
mul-neg_right f (inf s) (fin t n d) = cond-neg (eqb n 0) (unlike s (not t)) (unlike s t) (unlike_right s t)
mul-neg_right f (fin s m e) nan = refl
mul-neg_right f (fin s m e) (inf t) = cond-neg (eqb m 0) (unlike s (not t)) (unlike s t) (unlike_right s t)
mul-neg_right f (fin s m e) (fin t n d) =
    ap (λ (b : Bool). round f b (m * up e * (n * up d)) (down e * down d)) (unlike_right s t)
    ∙ round_neg f (unlike s t) (m * up e * (n * up d)) (down e * down d)

-- ---- the sum: the same value, or both are zeros
-- a zero that fits is written in the one way
no_one : (k : ℕ) → 2 ^ suc k ≡ 1 → ⊥
no_one k h = omega arith

flat : (e : ℤ) → up e * down e ≡ 1 → e ≡ pos 0
flat (pos zero) h = refl
flat (pos (suc k)) h = absurd (no_one k (sym (mul-one (2 ^ suc k)) ∙ h))
flat (negsuc k) h = absurd (no_one k (sym (one-mul (2 ^ suc k)) ∙ h))

pub zero_is : (f : Format) (s : Bool) (m : ℕ) (e : ℤ) → T (fits f (fin s m e)) → m ≡ 0 → Zero (fin s m e)
unfolding fits
zero_is f s zero e t z = (s, ap (λ (d : ℤ). fin s 0 d) (flat e (eqb→eq (up e * down e) 1 t)))
zero_is f s (suc m) e t z = absurd (never m z)
  where
    never : (m : ℕ) → suc m ≡ 0 → ⊥
    never m z = omega arith

pub no_factor : (m u c : ℕ) → 0 < u → 0 < c → m * u * c ≡ 0 → m ≡ 0
no_factor m u c U C z = elim (eq-zero-or-pos m) [ inl k ↦ k | inr k ↦ absurd (lt_irrefl 0 (subst (λ (x : ℕ). 0 < x) z (mul-pos (mul-pos k U) C))) ]

pub round_zero : (f : Format) (s : Bool) (a c : ℕ) → 0 < c → a ≡ 0 → Zero (round f s a c)
round_zero f s a c C e =
    from (round f s a c) (round-fits f s a c)
    (round_exact f s a c 0 0 C (pow_pos (prec f)) (pow_pos (low f + suc (emax f))) (ap (λ (x : ℕ). x * 2 ^ low f) e ∙ zero-mul (2 ^ low f) ∙ sym (zero-mul c)))
  where
    from : (x : Float) → T (fits f x) → HasValue x s a c → Zero x
    from nan t v = absurd v
    from (inf u) t v = absurd v
    from (fin u m d) t v = zero_is f u m d t (no_factor m (up d) c (up_pos d) C (v.1 ∙ ap (λ (x : ℕ). x * down d) e ∙ zero-mul (down d)))

pub neg-zero : (x : Float) → Zero x → Zero (neg x)
unfolding neg
neg-zero x z = (not z.0, ap neg z.1)

level : (a b : ℕ) → b ≤ a → a ≤ b → a - b ≡ 0
level a b h k = omega arith

sum-neg : (f : Format) (s : Bool) (a : ℕ) (t : Bool) (b c : ℕ) → 0 < c → Alike (sum f (not s) a (not t) b c) (neg (sum f s a t b c))
unfolding sum
sum-neg f true a true b c C = inl (round_neg f true (a + b) c)
sum-neg f false a false b c C = inl (round_neg f false (a + b) c)
sum-neg f true a false b c C = go (ltb a b) (ltb b a) (nltb→le a b) (nltb→le b a)
  where
    go : (x y : Bool) → (T (not x) → b ≤ a) → (T (not y) → a ≤ b)
        → Alike (cond x (round f true (b - a) c) (round f false (a - b) c)) (neg (cond x (round f false (b - a) c) (round f y (a - b) c)))
    go true y h k = inl (round_neg f false (b - a) c)
    go false true h k = inl (round_neg f true (a - b) c)
    go false false h k =
        let z = round_zero f false (a - b) c C (level a b (h tt) (k tt)) in
        inr (z, neg-zero (round f false (a - b) c) z)
sum-neg f false a true b c C = go (ltb a b) (ltb b a) (nltb→le a b) (nltb→le b a)
  where
    go : (x y : Bool) → (T (not x) → b ≤ a) → (T (not y) → a ≤ b)
        → Alike (cond x (round f false (b - a) c) (round f y (a - b) c)) (neg (cond x (round f true (b - a) c) (round f false (a - b) c)))
    go true y h k = inl (round_neg f true (b - a) c)
    go false true h k = inl (round_neg f false (a - b) c)
    go false false h k =
        let z = round_zero f false (a - b) c C (level a b (h tt) (k tt)) in
        inr (z, neg-zero (round f false (a - b) c) z)

pub add-neg : (f : Format) (x y : Float) → Alike (add f (neg x) (neg y)) (neg (add f x y))
unfolding add neg
add-neg f nan y = inl refl
add-neg f (inf s) nan = inl refl
add-neg f (inf true) (inf true) = inl refl
add-neg f (inf true) (inf false) = inl refl
add-neg f (inf false) (inf true) = inl refl
add-neg f (inf false) (inf false) = inl refl
add-neg f (inf s) (fin t n d) = inl refl
add-neg f (fin s m e) nan = inl refl
add-neg f (fin s m e) (inf t) = inl refl
add-neg f (fin s m e) (fin t n d) = sum-neg f s (m * up e * down d) t (n * up d * down e) (down e * down d) (mul-pos (down_pos e) (down_pos d))

pub sub-neg : (f : Format) (x y : Float) → Alike (sub f (neg x) (neg y)) (neg (sub f x y))
unfolding sub
sub-neg f x y = add-neg f x (neg y)

-- ---- what is alike has the same units
zero-count : (f : Format) (s : Bool) (m : ℕ) (e : ℤ) → m ≡ 0 → count f (fin s m e) ≡ 0
unfolding count
zero-count f s m e z =
    ap (λ (x : ℕ). x * up e * 2 ^ low f / down e) z ∙ ap (λ (x : ℕ). x * 2 ^ low f / down e) (zero-mul (up e))
    ∙ ap (λ (x : ℕ). x / down e) (zero-mul (2 ^ low f)) ∙ zero-div (down e)

zero-signed_count : (f : Format) (x : Float) → Zero x → signed_count f x ≡ pos 0
unfolding signed_count
zero-signed_count f x z = ap (λ (y : Float). signed_count f y) z.1 ∙ of z.0
  where
    of : (s : Bool) → signed_count f (fin s 0 (pos 0)) ≡ pos 0
    of true = ap (λ (n : ℕ). neg_ℤ (pos n)) (zero-count f true 0 (pos 0) refl)
    of false = ap pos (zero-count f false 0 (pos 0) refl)

zero_finite : (x : Float) → Zero x → finite x ≡ true
zero_finite x z = ap finite z.1

pub alike-signed_count : (f : Format) (u v : Float) → Alike u v → signed_count f u ≡ signed_count f v
alike-signed_count f u v (inl e) = ap (λ (x : Float). signed_count f x) e
alike-signed_count f u v (inr z) = zero-signed_count f u z.0 ∙ sym (zero-signed_count f v z.1)

pub alike_finite : (u v : Float) → Alike u v → finite u ≡ finite v
alike_finite u v (inl e) = ap finite e
alike_finite u v (inr z) = zero_finite u z.0 ∙ sym (zero_finite v z.1)

pub signed_count-neg : (f : Format) (x : Float) → signed_count f (neg x) ≡ neg_ℤ (signed_count f x)
unfolding signed_count neg count
signed_count-neg f nan = refl
signed_count-neg f (inf s) = refl
signed_count-neg f (fin true m e) = sym (neg_ℤ-neg_ℤ (pos (count f (fin true m e))))
signed_count-neg f (fin false m e) = refl
