-- A value that fits, and a result that is finite, as whole numbers of the format's smallest value. Assumes nothing.
use Rattle.std.proofs.Common.{◌≡◌, ℕ, zero, suc, ◌+◌, ◌-◌, ◌*◌, ◌/◌, ◌%◌, ◌^◌, ◌<◌, ◌≤◌, Bool, true, false, cond, ◌&&◌, T, eqb, ltb, leb, ℤ, pos, negsuc, sym, ap, ◌∙◌, subst, lt_of_lt_of_le, le_of_suc-le-suc, lt_irrefl, mul_assoc, mul-pos, lt_of_not-le, zero-mul, mul-one, mul-div_cancel, ltb→lt, leb→le, pow_pos, pow-add}
use native.Mathlib.Nat.{zero-div}
use lib.Pow.{pow-lt}
use lib.Ieee.{Float, nan, inf, fin, Format, prec, emax, low, up, down, size, odd, units as make, round, fits}
use lib.Ieee.Digits.{back}
use lib.Ieee.Fits.{core, round_is, down_pos, and_l, and_r}
use lib.Ieee.Exact.{HasValue, odd_sign}
use lib.Ieee.Nearest.{closest, closest_same}
use lib.Ieee.Scale.{finite}
use Rattle.binary64.specs.Units.{count}
use Rattle.binary64.proofs.Parts.{hi, lo}
use Rattle.binary64.proofs.Grid.{cut, grid, Short, short_zero}

-- ---- a / c is n units: then `round` makes n to prec digits of it
pub round_at : (f : Format) (s : Bool) (a c n : ℕ) → 0 < c → a * 2 ^ low f ≡ n * c → round f s a c ≡ make f s (closest n (2 ^ cut (prec f) n)) (cut (prec f) n)
round_at f s a c n C e =
    let k = cut (prec f) n in
    round_is f s a c
    ∙ ap (λ (x : ℕ). core f s x c (size (x / c) - prec f)) e
    ∙ ap (λ (x : ℕ). core f s (n * c) c (size x - prec f)) (mul-div_cancel n C)
    ∙ ap (λ (x : ℕ). make f s x k) (closest_same (n * c) (c * 2 ^ k) n (2 ^ k) (mul-pos C (pow_pos k)) (pow_pos k) (mul_assoc n c (2 ^ k)))

made : (f : Format) (s : Bool) (q k : ℕ) → T (finite (make f s q k)) → HasValue (make f s q k) s (q * 2 ^ k) (2 ^ low f)
unfolding make
made f s q k t = go (ltb (q * 2 ^ k) (2 ^ (low f + suc (emax f)))) t
  where
    go : (b : Bool) → T (finite (cond b (odd (suc (prec f)) s q k (low f)) (inf s)))
        → HasValue (cond b (odd (suc (prec f)) s q k (low f)) (inf s)) s (q * 2 ^ k) (2 ^ low f)
    go true u = odd_sign (suc (prec f)) s q k (low f)
    go false u = absurd u

pub rounded : (f : Format) (s : Bool) (a c n : ℕ) → 0 < c → a * 2 ^ low f ≡ n * c → T (finite (round f s a c))
    → HasValue (round f s a c) s (grid (prec f) n) (2 ^ low f)
rounded f s a c n C e t =
    let k = cut (prec f) n in
    let r = round_at f s a c n C e in
    subst (λ (x : Float). HasValue x s (grid (prec f) n) (2 ^ low f)) (sym r) (made f s (closest n (2 ^ k)) k (subst (λ (x : Float). T (finite x)) r t))

-- ---- `hi`, `lo` and `count` of what has a value
pub count_of : (f : Format) (x : Float) (s : Bool) (n : ℕ) → HasValue x s n (2 ^ low f) → count f x ≡ n
unfolding count
count_of f nan s n v = absurd v
count_of f (inf t) s n v = absurd v
count_of f (fin t m e) s n v = ap (λ (x : ℕ). x / down e) v.1 ∙ mul-div_cancel n (down_pos e)

pub hi_of : (f : Format) (x : Float) (s : Bool) (n : ℕ) → HasValue x s n (2 ^ low f) → hi f x ≡ cond s 0 n
unfolding hi
hi_of f nan s n v = absurd v
hi_of f (inf t) s n v = absurd v
hi_of f (fin t m e) s n v = ap (λ (b : Bool). cond b 0 (count f (fin t m e))) v.0 ∙ ap (λ (z : ℕ). cond s 0 z) (count_of f (fin t m e) s n v)

pub lo_of : (f : Format) (x : Float) (s : Bool) (n : ℕ) → HasValue x s n (2 ^ low f) → lo f x ≡ cond s n 0
unfolding lo
lo_of f nan s n v = absurd v
lo_of f (inf t) s n v = absurd v
lo_of f (fin t m e) s n v = ap (λ (b : Bool). cond b (count f (fin t m e)) 0) v.0 ∙ ap (λ (z : ℕ). cond s z 0) (count_of f (fin t m e) s n v)

-- ---- what fits is a whole number of units, of at most prec digits with zeros after them
pow_le_back : (a l : ℕ) → 2 ^ a ≤ 2 ^ l → a ≤ l
pow_le_back a l h = le_of_suc-le-suc (lt_of_not-le (λ (g : suc l ≤ a). lt_irrefl (2 ^ l) (lt_of_lt_of_le (pow-lt g) h)))

place : (l : ℕ) (e : ℤ) → down e ≤ 2 ^ l → (j : ℕ) × ((m : ℕ) → m * up e * 2 ^ l ≡ m * 2 ^ j * down e)
place l (pos a) h = (a + l, λ m. mul_assoc m (2 ^ a) (2 ^ l) ∙ ap (λ (x : ℕ). m * x) (sym (pow-add 2 a l)) ∙ sym (mul-one (m * 2 ^ (a + l))))
place l (negsuc a) h = (
  l - suc a,
  λ m.
      ap (λ (x : ℕ). x * 2 ^ l) (mul-one m)
      ∙ ap (λ (x : ℕ). m * x) (ap (λ (x : ℕ). 2 ^ x) (sym (back l (suc a) (pow_le_back (suc a) l h))) ∙ pow-add 2 (l - suc a) (suc a))
      ∙ sym (mul_assoc m (2 ^ (l - suc a)) (2 ^ suc a)),
)

abbrev pub Whole : Format → Bool → ℕ → ℤ → Type 0
Whole f s m e = (m * up e * 2 ^ low f ≡ count f (fin s m e) * down e) × Short (prec f) (count f (fin s m e))

whole-at : (f : Format) (s : Bool) (m : ℕ) (e : ℤ) → m < 2 ^ prec f → down e ≤ 2 ^ low f → Whole f s m e
unfolding count
whole-at f s m e a b =
    let w = place (low f) e b in
    let is : count f (fin s m e) ≡ m * 2 ^ w.0 = ap (λ (x : ℕ). x / down e) (w.1 m) ∙ mul-div_cancel (m * 2 ^ w.0) (down_pos e) in
    (w.1 m ∙ ap (λ (x : ℕ). x * down e) (sym is), (m, w.0, a, is))

zero-at : (f : Format) (s : Bool) (e : ℤ) → Whole f s 0 e
unfolding count
zero-at f s e =
    let z : 0 * up e * 2 ^ low f ≡ 0 = ap (λ (x : ℕ). x * 2 ^ low f) (zero-mul (up e)) ∙ zero-mul (2 ^ low f) in
    let is : count f (fin s 0 e) ≡ 0 = ap (λ (x : ℕ). x / down e) z ∙ zero-div (down e) in
    (z ∙ sym (ap (λ (x : ℕ). x * down e) is ∙ zero-mul (down e)), subst (λ (x : ℕ). Short (prec f) x) (sym is) (short_zero (prec f)))

pub whole : (f : Format) (s : Bool) (m : ℕ) (e : ℤ) → T (fits f (fin s m e)) → Whole f s m e
unfolding fits
whole f s zero e t = zero-at f s e
whole f s (suc m) e t =
    let a : Bool = eqb (suc m % 2) 1 in
    let b : Bool = ltb (suc m) (2 ^ prec f) in
    let c : Bool = leb (down e) (2 ^ low f) in
    let d : Bool = ltb (suc m * up e) (2 ^ suc (emax f) * down e) in
    let u : T (a && b && c) = and_l (a && b && c) d t in
    whole-at f s (suc m) e (ltb→lt (suc m) (2 ^ prec f) (and_r a b (and_l (a && b) c u))) (leb→le (down e) (2 ^ low f) (and_r (a && b) c u))
