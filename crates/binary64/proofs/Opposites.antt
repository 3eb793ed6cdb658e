-- Opposite operands, a zero's sign aside: the sum commutes, a difference changes its sign with its operands' places,
-- and the operations respect `Alike`. Assumes nothing.
use Rattle.std.proofs.Common.{◌≡◌, ℕ, ◌+◌, ◌-◌, ◌*◌, ◌<◌, ◌≤◌, Bool, true, false, cond, not, ◌&&◌, T, ltb, pos, sym, refl, ap, ◌∙◌, subst, inl, inr, mul_comm, mul-pos, mul-zero, zero-mul, arith, ltb→lt, nltb→le}
use lib.Ieee.{Float, nan, inf, fin, Format, up, down, unlike, round, neg, sum, add, sub, mul}
use lib.Ieee.Fits.{down_pos}
use lib.Ieee.Scale.{finite}
use Rattle.binary64.specs.Units.{Zero, Alike, Opposite}
use Rattle.binary64.proofs.Sign.{round_zero, neg-zero, add-neg, mul-neg_right}

-- ---- the sum commutes
plus_swap : (a b : ℕ) → a + b ≡ b + a
plus_swap a b = omega arith

minus_swap : (a b : ℕ) → b ≤ a → a ≤ b → a - b ≡ b - a
minus_swap a b h k = omega arith

both : (a b : ℕ) → a < b → b < a → ⊥
both a b h k = omega arith

sum_swap : (f : Format) (s : Bool) (a : ℕ) (t : Bool) (b c : ℕ) → sum f s a t b c ≡ sum f t b s a c
unfolding sum
sum_swap f true a true b c = ap (λ (n : ℕ). round f true n c) (plus_swap a b)
sum_swap f false a false b c = ap (λ (n : ℕ). round f false n c) (plus_swap a b)
sum_swap f true a false b c = go (ltb a b) (ltb b a) (ltb→lt a b) (nltb→le a b) (ltb→lt b a) (nltb→le b a)
  where
    go : (x y : Bool) → (T x → a < b) → (T (not x) → b ≤ a) → (T y → b < a) → (T (not y) → a ≤ b)
        → cond x (round f false (b - a) c) (round f (true && y) (a - b) c) ≡ cond y (round f true (a - b) c) (round f (false && x) (b - a) c)
    go true true h h' k k' = absurd (both a b (h tt) (k tt))
    go true false h h' k k' = refl
    go false true h h' k k' = refl
    go false false h h' k k' = ap (λ (n : ℕ). round f false n c) (minus_swap a b (h' tt) (k' tt))
sum_swap f false a true b c = go (ltb a b) (ltb b a) (ltb→lt a b) (nltb→le a b) (ltb→lt b a) (nltb→le b a)
  where
    go : (x y : Bool) → (T x → a < b) → (T (not x) → b ≤ a) → (T y → b < a) → (T (not y) → a ≤ b)
        → cond x (round f true (b - a) c) (round f (false && y) (a - b) c) ≡ cond y (round f false (a - b) c) (round f (true && x) (b - a) c)
    go true true h h' k k' = absurd (both a b (h tt) (k tt))
    go true false h h' k k' = refl
    go false true h h' k k' = refl
    go false false h h' k k' = ap (λ (n : ℕ). round f false n c) (minus_swap a b (h' tt) (k' tt))

pub add_swap : (f : Format) (x y : Float) → add f x y ≡ add f y x
unfolding add
add_swap f nan nan = refl
add_swap f nan (inf t) = refl
add_swap f nan (fin t n d) = refl
add_swap f (inf s) nan = refl
add_swap f (inf true) (inf true) = refl
add_swap f (inf true) (inf false) = refl
add_swap f (inf false) (inf true) = refl
add_swap f (inf false) (inf false) = refl
add_swap f (inf s) (fin t n d) = refl
add_swap f (fin s m e) nan = refl
add_swap f (fin s m e) (inf t) = refl
add_swap f (fin s m e) (fin t n d) =
    sum_swap f s (m * up e * down d) t (n * up d * down e) (down e * down d)
    ∙ ap (λ (c : ℕ). sum f t (n * up d * down e) s (m * up e * down d) c) (mul_comm (down e) (down d))

-- ---- what is alike
pub alike_sym : (u v : Float) → Alike u v → Alike v u
alike_sym u v (inl e) = inl (sym e)
alike_sym u v (inr z) = inr (z.1, z.0)

pub alike_trans : (u v w : Float) → Alike u v → Alike v w → Alike u w
alike_trans u v w (inl e) (inl g) = inl (e ∙ g)
alike_trans u v w (inl e) (inr z) = inr (subst (λ (x : Float). Zero x) (sym e) z.0, z.1)
alike_trans u v w (inr z) (inl g) = inr (z.0, subst (λ (x : Float). Zero x) g z.1)
alike_trans u v w (inr z) (inr y) = inr (z.0, y.1)

pub alike-neg : (u v : Float) → Alike u v → Alike (neg u) (neg v)
alike-neg u v (inl e) = inl (ap neg e)
alike-neg u v (inr z) = inr (neg-zero u z.0, neg-zero v z.1)

pub neg-neg : (x : Float) → neg (neg x) ≡ x
unfolding neg
neg-neg nan = refl
neg-neg (inf true) = refl
neg-neg (inf false) = refl
neg-neg (fin true m e) = refl
neg-neg (fin false m e) = refl

-- ---- a zero added
sum_none : (f : Format) (s : Bool) (a : ℕ) (t : Bool) (b c : ℕ) → 0 < c → b ≡ 0 → Alike (sum f s a t b c) (round f s a c)
unfolding sum
sum_none f true a true b c C z = inl (ap (λ (n : ℕ). round f true n c) (plus a b z))
  where
    plus : (a b : ℕ) → b ≡ 0 → a + b ≡ a
    plus a b z = omega arith
sum_none f false a false b c C z = inl (ap (λ (n : ℕ). round f false n c) (plus a b z))
  where
    plus : (a b : ℕ) → b ≡ 0 → a + b ≡ a
    plus a b z = omega arith
sum_none f true a false b c C z = go (ltb a b) (ltb b a) (ltb→lt a b) (nltb→le b a)
  where
    never : (a b : ℕ) → b ≡ 0 → a < b → ⊥
    never a b z h = omega arith

    less : (a b : ℕ) → b ≡ 0 → a - b ≡ a
    less a b z = omega arith

    nil : (a b : ℕ) → b ≡ 0 → a ≤ b → a ≡ 0
    nil a b z h = omega arith

    go : (x y : Bool) → (T x → a < b) → (T (not y) → a ≤ b) → Alike (cond x (round f false (b - a) c) (round f (true && y) (a - b) c)) (round f true a c)
    go true y h k = absurd (never a b z (h tt))
    go false true h k = inl (ap (λ (n : ℕ). round f true n c) (less a b z))
    go false false h k = inr (round_zero f false (a - b) c C (less a b z ∙ nil a b z (k tt)), round_zero f true a c C (nil a b z (k tt)))
sum_none f false a true b c C z = go (ltb a b) (ltb→lt a b)
  where
    never : (a b : ℕ) → b ≡ 0 → a < b → ⊥
    never a b z h = omega arith

    less : (a b : ℕ) → b ≡ 0 → a - b ≡ a
    less a b z = omega arith

    go : (x : Bool) → (T x → a < b) → Alike (cond x (round f true (b - a) c) (round f false (a - b) c)) (round f false a c)
    go true h = absurd (never a b z (h tt))
    go false h = inl (ap (λ (n : ℕ). round f false n c) (less a b z))

add_none : (f : Format) (x : Float) (s t : Bool) → Alike (add f x (fin s 0 (pos 0))) (add f x (fin t 0 (pos 0)))
unfolding add
add_none f nan s t = inl refl
add_none f (inf r) s t = inl refl
add_none f (fin r m e) s t =
    let a = m * up e * 1 in
    let b = 0 * 1 * down e in
    let c = down e * 1 in
    let C : 0 < c = mul-pos (down_pos e) (down_pos (pos 0)) in
    alike_trans (sum f r a s b c) (round f r a c) (sum f r a t b c) (sum_none f r a s b c C (zero-mul (down e)))
    (alike_sym (sum f r a t b c) (round f r a c) (sum_none f r a t b c C (zero-mul (down e))))

add_right : (f : Format) (x y z : Float) → Alike y z → Alike (add f x y) (add f x z)
add_right f x y z (inl e) = inl (ap (λ (w : Float). add f x w) e)
add_right f x y z (inr n) =
    subst (λ (w : Float). Alike (add f x w) (add f x z)) (sym n.0.1)
    (subst (λ (w : Float). Alike (add f x (fin n.0.0 0 (pos 0))) (add f x w)) (sym n.1.1) (add_none f x n.0.0 n.1.0))

add_left : (f : Format) (x y z : Float) → Alike y z → Alike (add f y x) (add f z x)
add_left f x y z h =
    subst (λ (w : Float). Alike w (add f z x)) (add_swap f x y) (subst (λ (w : Float). Alike (add f x y) w) (add_swap f x z) (add_right f x y z h))

pub add-alike : (f : Format) (x y u v : Float) → Alike x u → Alike y v → Alike (add f x y) (add f u v)
add-alike f x y u v h k = alike_trans (add f x y) (add f x v) (add f u v) (add_right f x y v k) (add_left f v x u h)

-- ---- opposite operands
pub sub_swap : (f : Format) (x y : Float) → Opposite (sub f x y) (sub f y x)
unfolding sub
sub_swap f x y =
    subst (λ (w : Float). Alike w (neg (add f y (neg x)))) (ap (λ (z : Float). add f (neg y) z) (neg-neg x) ∙ add_swap f (neg y) x) (add-neg f y (neg x))

pub add_opposed : (f : Format) (x y u v : Float) → Opposite u x → Opposite v y → Opposite (add f u v) (add f x y)
add_opposed f x y u v h k = alike_trans (add f u v) (add f (neg x) (neg y)) (neg (add f x y)) (add-alike f u v (neg x) (neg y) h k) (add-neg f x y)

pub sub_opposed : (f : Format) (x y u v : Float) → Opposite u x → Opposite v y → Opposite (sub f u v) (sub f x y)
unfolding sub
sub_opposed f x y u v h k = add_opposed f x (neg y) u (neg v) h (alike-neg v (neg y) k)

mul-zeros : (f : Format) (k : Float) (s : Bool) → T (finite k) → Zero (mul f k (fin s 0 (pos 0)))
unfolding mul
mul-zeros f nan s t = absurd t
mul-zeros f (inf r) s t = absurd t
mul-zeros f (fin r m e) s t = round_zero f (unlike r s) (m * up e * (0 * 1)) (down e * 1) (mul-pos (down_pos e) (down_pos (pos 0))) (mul-zero (m * up e))

mul-none : (f : Format) (k d : Float) → T (finite k) → Zero d → Zero (mul f k d)
mul-none f k d t z = subst (λ (w : Float). Zero (mul f k w)) (sym z.1) (mul-zeros f k z.0 t)

pub mul_opposed : (f : Format) (k x y : Float) → T (finite k) → Opposite y x → Opposite (mul f k y) (mul f k x)
mul_opposed f k x y t (inl e) = inl (ap (λ (w : Float). mul f k w) e ∙ mul-neg_right f k x)
mul_opposed f k x y t (inr z) =
    inr (mul-none f k y t z.0, neg-zero (mul f k x) (mul-none f k x t (subst (λ (w : Float). Zero w) (neg-neg x) (neg-zero (neg x) z.1))))
