-- `signed_count` as the difference of `hi` and `lo`: what is proved of distances of naturals, said of integers. Assumes nothing.
use Rattle.std.proofs.Common.{◌≡◌, ℕ, zero, suc, ◌+◌, ◌-◌, ◌<◌, ◌≤◌, Bool, true, false, cond, not, T, ltb, List, [], ◌∷◌, ℤ, pos, negsuc, ◌+ℤ◌, ◌-ℤ◌, neg_ℤ, nat_abs, sym, refl, ap, ◌∙◌, ap₂, arith, ltb→lt, nltb→le}
use lib.IntN.{sub_ℕ, +ℤ_assoc, +ℤ_comm, +ℤ_idr, +ℤ_idl, neg_ℤ-+ℤ, neg_ℤ-neg_ℤ}
use lib.Ieee.{Float, nan, inf, fin, Format}
use Rattle.binary64.specs.Units.{count, signed_count, exact_total}
use Rattle.binary64.proofs.Parts.{hi, lo, gap, his, los}

-- ---- a - b of two naturals
by_test : (c : Bool) (x y : ℤ) (P : ℤ → Type 0) → (T c → P x) → (T (not c) → P y) → P (cond c x y)
by_test true x y P f g = f tt
by_test false x y P f g = g tt

pub abs-sub : (a b : ℕ) → nat_abs (sub_ℕ a b) ≡ gap a b
abs-sub a b =
    by_test (ltb a b) (negsuc (b - suc a)) (pos (a - b)) (λ (z : ℤ). nat_abs z ≡ gap a b) (λ t. less a b (ltb→lt a b t)) (λ t. more a b (nltb→le a b t))
  where
    less : (a b : ℕ) → a < b → suc (b - suc a) ≡ gap a b
    less a b h = omega arith

    more : (a b : ℕ) → b ≤ a → a - b ≡ gap a b
    more a b h = omega arith

pub sub_is : (a b : ℕ) → sub_ℕ a b ≡ pos a -ℤ pos b
sub_is a zero = by_test (ltb a 0) (negsuc (0 - suc a)) (pos (a - 0)) (λ (z : ℤ). z ≡ pos (a + 0)) (λ t. absurd (never a (ltb→lt a 0 t))) (λ t. ap pos (same a))
  where
    never : (a : ℕ) → a < 0 → ⊥
    never a h = omega arith

    same : (a : ℕ) → a - 0 ≡ a + 0
    same a = omega arith
sub_is a (suc b) = refl

pub four : (a b c d : ℤ) → (a +ℤ b) +ℤ (c +ℤ d) ≡ (a +ℤ c) +ℤ (b +ℤ d)
four a b c d =
    +ℤ_assoc a b (c +ℤ d)
    ∙ ap (λ (z : ℤ). a +ℤ z) (sym (+ℤ_assoc b c d) ∙ ap (λ (z : ℤ). z +ℤ d) (+ℤ_comm b c) ∙ +ℤ_assoc c b d)
    ∙ sym (+ℤ_assoc a c (b +ℤ d))

pub sub-add : (a b c d : ℕ) → sub_ℕ a b +ℤ sub_ℕ c d ≡ sub_ℕ (a + c) (b + d)
sub-add a b c d =
    ap₂ (λ (x y : ℤ). x +ℤ y) (sub_is a b) (sub_is c d)
    ∙ four (pos a) (neg_ℤ (pos b)) (pos c) (neg_ℤ (pos d))
    ∙ ap (λ (z : ℤ). pos (a + c) +ℤ z) (sym (neg_ℤ-+ℤ (pos b) (pos d)))
    ∙ sym (sub_is (a + c) (b + d))

pub sub-neg : (a b : ℕ) → neg_ℤ (sub_ℕ a b) ≡ sub_ℕ b a
sub-neg a b =
    ap neg_ℤ (sub_is a b)
    ∙ neg_ℤ-+ℤ (pos a) (neg_ℤ (pos b))
    ∙ ap (λ (z : ℤ). neg_ℤ (pos a) +ℤ z) (neg_ℤ-neg_ℤ (pos b))
    ∙ +ℤ_comm (neg_ℤ (pos a)) (pos b)
    ∙ sym (sub_is b a)

-- ---- `signed_count`
pub neg_is : (n : ℕ) → neg_ℤ (pos n) ≡ sub_ℕ 0 n
neg_is n = sym (+ℤ_idl (neg_ℤ (pos n))) ∙ sym (sub_is 0 n)

pub pos_is : (n : ℕ) → pos n ≡ sub_ℕ n 0
pos_is n = sym (+ℤ_idr (pos n)) ∙ sym (sub_is n 0)

pub signed_count_is : (f : Format) (x : Float) → signed_count f x ≡ sub_ℕ (hi f x) (lo f x)
unfolding signed_count hi lo
signed_count_is f nan = refl
signed_count_is f (inf s) = refl
signed_count_is f (fin true m e) = neg_is (count f (fin true m e))
signed_count_is f (fin false m e) = pos_is (count f (fin false m e))

pub abs_is : (f : Format) (x : Float) → nat_abs (signed_count f x) ≡ count f x
unfolding signed_count count
abs_is f nan = refl
abs_is f (inf s) = refl
abs_is f (fin true m e) = flip (count f (fin true m e))
  where
    flip : (n : ℕ) → nat_abs (neg_ℤ (pos n)) ≡ n
    flip zero = refl
    flip (suc n) = refl
abs_is f (fin false m e) = refl

pub sum_is : (f : Format) (xs : List Float) → exact_total f xs ≡ sub_ℕ (his f xs) (los f xs)
unfolding exact_total his los
sum_is f [] = refl
sum_is f (x ∷ xs) = ap₂ (λ (a b : ℤ). a +ℤ b) (signed_count_is f x) (sum_is f xs) ∙ sub-add (hi f x) (lo f x) (his f xs) (los f xs)

-- the distance of two differences
pub apart_is : (a b c d : ℕ) → nat_abs (sub_ℕ a b -ℤ sub_ℕ c d) ≡ gap (a + d) (b + c)
apart_is a b c d = ap nat_abs (ap (λ (z : ℤ). sub_ℕ a b +ℤ z) (sub-neg c d) ∙ sub-add a b d c) ∙ abs-sub (a + d) (b + c)

pub off_is : (f : Format) (r x y : Float)
    → nat_abs (signed_count f r -ℤ (signed_count f x +ℤ signed_count f y)) ≡ gap (hi f r + lo f x + lo f y) (lo f r + hi f x + hi f y)
off_is f r x y =
    ap nat_abs (ap₂ (λ (p q : ℤ). p -ℤ q) (signed_count_is f r)
    (ap₂ (λ (p q : ℤ). p +ℤ q) (signed_count_is f x) (signed_count_is f y) ∙ sub-add (hi f x) (lo f x) (hi f y) (lo f y)))
    ∙ apart_is (hi f r) (lo f r) (hi f x + hi f y) (lo f x + lo f y)
    ∙ grouped (hi f r) (lo f r) (hi f x) (lo f x) (hi f y) (lo f y)
  where
    grouped : (a b c d e g : ℕ) → gap (a + (d + g)) (b + (c + e)) ≡ gap (a + d + g) (b + c + e)
    grouped a b c d e g = omega arith

pub both_is : (f : Format) (x y : Float) → nat_abs (signed_count f x +ℤ signed_count f y) ≡ gap (hi f x + hi f y) (lo f x + lo f y)
both_is f x y =
    ap nat_abs (ap₂ (λ (p q : ℤ). p +ℤ q) (signed_count_is f x) (signed_count_is f y) ∙ sub-add (hi f x) (lo f x) (hi f y) (lo f y))
    ∙ abs-sub (hi f x + hi f y) (lo f x + lo f y)

pub error_is : (f : Format) (r : Float) (xs : List Float) → nat_abs (signed_count f r -ℤ exact_total f xs) ≡ gap (hi f r + los f xs) (lo f r + his f xs)
error_is f r xs = ap nat_abs (ap₂ (λ (p q : ℤ). p -ℤ q) (signed_count_is f r) (sum_is f xs)) ∙ apart_is (hi f r) (lo f r) (his f xs) (los f xs)
