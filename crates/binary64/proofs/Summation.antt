-- A sum of n terms from the left is within (n - 1) parts in 2 ^ prec of the exact sum,
-- the parts being of the sum of the sizes (Jeannerod and Rump, 2013). Assumes nothing.
use Rattle.std.proofs.Common.{◌≡◌, ℕ, suc, ◌+◌, ◌-◌, ◌*◌, ◌^◌, ◌<◌, ◌≤◌, true, false, T, List, [], ◌∷◌, length, sym, refl, ap, ◌∙◌, subst, inl, inr, le_trans, le_of_eq, add-zero, le_of_lt, add_assoc, mul-le-mul_right, mul_assoc, mul-le-mul_left, zero-add, zero-mul, le_of_mul-le-mul_right, arith, pow_pos}
use lib.Ieee.{Float, nan, inf, fin, Format, binary32, binary64, prec, add, fits, of_bits}
use lib.Ieee.Bits.{of_bits-fits}
use lib.Ieee.Fits.{add-fits}
use lib.Ieee.Scale.{finite}
use Rattle.binary64.specs.Units.{count, total, AllFit, AllFinite, total_count}
use Rattle.binary64.proofs.Parts.{hi, lo, gap, his, los}
use Rattle.binary64.proofs.Grid.{under_or_from}
use Rattle.binary64.proofs.Addition.{add_law}

-- ---- a sum that is finite has finite terms
pub add_finite : (f : Format) (x y : Float) → T (finite (add f x y)) → T (finite x) × T (finite y)
unfolding add
add_finite f nan y t = absurd t
add_finite f (inf s) nan t = absurd t
add_finite f (inf true) (inf true) t = absurd t
add_finite f (inf true) (inf false) t = absurd t
add_finite f (inf false) (inf true) t = absurd t
add_finite f (inf false) (inf false) t = absurd t
add_finite f (inf s) (fin u n d) t = absurd t
add_finite f (fin s m e) nan t = absurd t
add_finite f (fin s m e) (inf u) t = absurd t
add_finite f (fin s m e) (fin u n d) t = (tt, tt)

pub total_finite : (f : Format) (s : Float) (xs : List Float) → T (finite (total f s xs)) → T (finite s) × AllFinite xs
unfolding total
total_finite f s [] t = (t, tt)
total_finite f s (x ∷ xs) t =
    let r = total_finite f (add f s x) xs t in
    let b = add_finite f s x r.0 in
    (b.0, (b.1, r.1))

-- ---- the two parts and the size
pub count_parts : (f : Format) (x : Float) → hi f x + lo f x ≡ count f x
unfolding hi lo count
count_parts f nan = refl
count_parts f (inf s) = refl
count_parts f (fin true m e) = zero-add (count f (fin true m e))
count_parts f (fin false m e) = add-zero (count f (fin false m e))

-- ---- one step. E is the error so far, d the error of the step, E' the error after it; S is the sum of the sizes so far, X the size of the new term, and
-- |s| ≤ S + E.
small_term : (P m S X E d E' : ℕ) → E * P ≤ m * S → E' ≤ E + d → d ≤ X → X * P ≤ S → E' * P ≤ suc m * (S + X)
small_term P m S X E d E' h e a b =
    let u : E' * P ≤ (E + d) * P = mul-le-mul_right P e in
    let v : d * P ≤ X * P = mul-le-mul_right P a in
    omega arith

large_term : (P m S X E d E' : ℕ) → 0 < P → E * P ≤ m * S → E' ≤ E + d → d * P ≤ S + E + X → S ≤ X * P → E' * P ≤ suc m * (S + X)
large_term P m S X E d E' p h e a b =
    let u : E' * P ≤ (E + d) * P = mul-le-mul_right P e in
    let w : E ≤ m * X = le_of_mul-le-mul_right (le_trans h (le_trans (mul-le-mul_left m b) (le_of_eq (sym (mul_assoc m X P))))) p in
    omega arith

-- the errors, by distances
apart : (hs ls hr lr hx lx H L : ℕ) → gap (hr + (L + lx)) (lr + (H + hx)) ≤ gap (hs + L) (ls + H) + gap (hr + ls + lx) (lr + hs + hx)
apart hs ls hr lr hx lx H L = omega arith

size_sum : (hs ls hx lx H L : ℕ) → gap (hs + hx) (ls + lx) ≤ H + L + gap (hs + L) (ls + H) + (hx + lx)
size_sum hs ls hx lx H L = omega arith

step : (f : Format) (m H L : ℕ) (s x : Float) → T (fits f s) → T (fits f x) → T (finite (add f s x)) → gap (hi f s + L) (lo f s + H) * 2 ^ prec f ≤ m * (H + L)
    → gap (hi f (add f s x) + (L + lo f x)) (lo f (add f s x) + (H + hi f x)) * 2 ^ prec f ≤ suc m * ((H + L) + count f x)
step f m H L s x F G t h =
    let r = add f s x in
    let law = add_law f s x F G t in
    let d = gap (hi f r + lo f s + lo f x) (lo f r + hi f s + hi f x) in
    let E = gap (hi f s + L) (lo f s + H) in
    let E' = gap (hi f r + (L + lo f x)) (lo f r + (H + hi f x)) in
    let tri : E' ≤ E + d = apart (hi f s) (lo f s) (hi f r) (lo f r) (hi f x) (lo f x) H L in
    elim (under_or_from (H + L) (count f x * 2 ^ prec f)) [
      | inl l ↦
          large_term (2 ^ prec f) m (H + L) (count f x) E d E' (pow_pos (prec f)) h tri
          (le_trans law.0
          (subst (λ (z : ℕ). gap (hi f s + hi f x) (lo f s + lo f x) ≤ H + L + E + z) (count_parts f x) (size_sum (hi f s) (lo f s) (hi f x) (lo f x) H L)))
          (le_of_lt l)
      | inr g ↦ small_term (2 ^ prec f) m (H + L) (count f x) E d E' h tri law.2 g
    ]

-- ---- from the second term on: m + 1 terms have been summed, with the parts H and L
from : (f : Format) (m H L : ℕ) (s : Float) (xs : List Float) → T (fits f s) → AllFit f xs → T (finite (total f s xs))
    → gap (hi f s + L) (lo f s + H) * 2 ^ prec f ≤ m * (H + L)
    → gap (hi f (total f s xs) + (L + los f xs)) (lo f (total f s xs) + (H + his f xs)) * 2 ^ prec f ≤ (m + length xs) * (H + L + total_count f xs)
unfolding total his los total_count
from f m H L s [] F A t h = last f m H L (hi f s) (lo f s) h
  where
    last : (f : Format) (m H L a b : ℕ) → gap (a + L) (b + H) * 2 ^ prec f ≤ m * (H + L) → gap (a + (L + 0)) (b + (H + 0)) * 2 ^ prec f ≤ (m + 0) * (H + L + 0)
    last f m H L a b h = simp add-zero h
from f m H L s (x ∷ xs) F A t h =
    let u : T (finite (add f s x)) = (total_finite f (add f s x) xs t).0 in
    let k = step f m H L s x F A.0 u h in
    let i = from f (suc m) (H + hi f x) (L + lo f x) (add f s x) xs (add-fits f s x) A.1 t
    (le_trans k (le_of_eq (ap (λ (z : ℕ). suc m * z) (parts H L (hi f x) (lo f x) (count f x) (count_parts f x))))) in
    regroup f (hi f (total f (add f s x) xs)) (lo f (total f (add f s x) xs)) m H L (hi f x) (lo f x) (count f x) (his f xs) (los f xs) (total_count f xs)
    (length xs) (count_parts f x) i
  where
    parts : (H L a b c : ℕ) → a + b ≡ c → H + L + c ≡ H + a + (L + b)
    parts H L a b c e = omega arith

    regroup : (f : Format) (hr lr m H L a b c hs ls ms n : ℕ) → a + b ≡ c
        → gap (hr + (L + b + ls)) (lr + (H + a + hs)) * 2 ^ prec f ≤ (suc m + n) * (H + a + (L + b) + ms)
        → gap (hr + (L + (b + ls))) (lr + (H + (a + hs))) * 2 ^ prec f ≤ (m + suc n) * (H + L + (c + ms))
    regroup f hr lr m H L a b c hs ls ms n e i =
        let p : L + (b + ls) ≡ L + b + ls = sym (add_assoc L b ls) in
        let q : H + (a + hs) ≡ H + a + hs = sym (add_assoc H a hs) in
        let v : m + suc n ≡ suc m + n = omega arith in
        let w : H + L + (c + ms) ≡ H + a + (L + b) + ms = omega arith in
        rw (p, q, v, w) i

-- +0.0
abbrev pub zero : Format → Float
zero f = of_bits f 0

zero_none : (f : Format) → count f (zero f) ≡ 0
unfolding count of_bits
zero_none binary32 = refl
zero_none binary64 = refl

-- the first sum is exact
first : (f : Format) (x : Float) → T (fits f x) → T (finite (add f (zero f) x))
    → gap (hi f (add f (zero f) x) + lo f x) (lo f (add f (zero f) x) + hi f x) * 2 ^ prec f ≤ 0 * (hi f x + lo f x)
first f x F t =
    let r = add f (zero f) x in
    let law = add_law f (zero f) x (of_bits-fits f 0) F t in
    let z = zero_none f in
    let none : gap (hi f r + lo f x) (lo f r + hi f x)
    ≡ 0 = same (hi f r) (lo f r) (hi f x) (lo f x) (hi f (zero f)) (lo f (zero f)) (count f (zero f)) (count_parts f (zero f)) z law.1 in
    le_of_eq (ap (λ (d : ℕ). d * 2 ^ prec f) none ∙ zero-mul (2 ^ prec f) ∙ sym (zero-mul (hi f x + lo f x)))
  where
    same : (hr lr hx lx a b c : ℕ) → a + b ≡ c → c ≡ 0 → gap (hr + b + lx) (lr + a + hx) ≤ c → gap (hr + lx) (lr + hx) ≡ 0
    same hr lr hx lx a b c e z h = omega arith

pub total_law : (f : Format) (xs : List Float) → AllFit f xs → T (finite (total f (zero f) xs))
    → gap (hi f (total f (zero f) xs) + los f xs) (lo f (total f (zero f) xs) + his f xs) * 2 ^ prec f ≤ (length xs - 1) * total_count f xs
unfolding total his los total_count
total_law f [] A t =
    le_of_eq (ap (λ (d : ℕ). d * 2 ^ prec f) (none (hi f (zero f)) (lo f (zero f)) (count f (zero f)) (count_parts f (zero f)) (zero_none f))
    ∙ zero-mul (2 ^ prec f))
  where
    none : (a b c : ℕ) → a + b ≡ c → c ≡ 0 → gap (a + 0) (b + 0) ≡ 0
    none a b c e z = omega arith
total_law f (x ∷ xs) A t =
    let u : T (finite (add f (zero f) x)) = (total_finite f (add f (zero f) x) xs t).0 in
    let i = from f 0 (hi f x) (lo f x) (add f (zero f) x) xs (add-fits f (zero f) x) A.1 t (first f x A.0 u) in
    le_trans i (le_of_eq
    (ap (λ (z : ℕ). z * (hi f x + lo f x + total_count f xs)) (one_less (length xs))
    ∙ ap (λ (z : ℕ). (suc (length xs) - 1) * (z + total_count f xs)) (count_parts f x)))
  where
    one_less : (n : ℕ) → 0 + n ≡ suc n - 1
    one_less n = omega arith
