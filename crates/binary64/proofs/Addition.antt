-- The sum of two values that fit, as whole numbers of units: it is within one part in 2 ^ prec of the exact sum,
-- and no farther from it than either operand is in size. Assumes nothing.
use Rattle.std.proofs.Common.{◌≡◌, ℕ, ◌+◌, ◌-◌, ◌*◌, ◌^◌, ◌<◌, ◌≤◌, Bool, true, false, cond, not, ◌&&◌, T, ltb, ◌⊎◌, sym, refl, ap, ◌∙◌, inl, inr, le_trans, le_of_eq, le_of_lt, mul-le-mul_right, mul_assoc, mul_comm, mul-pos, mul_right_comm, le_of_mul-le-mul_right, arith, ltb→lt, nltb→le}
use native.Mathlib.Nat.{mul-sub}
use lib.Ieee.{Float, nan, inf, fin, Format, prec, low, up, down, round, sum, add, fits}
use lib.Ieee.Fits.{two, two-le_pos, down_pos}
use lib.Ieee.Scale.{finite}
use Rattle.binary64.specs.Units.{count}
use Rattle.binary64.proofs.Parts.{hi, lo, gap}
use Rattle.binary64.proofs.Grid.{grid, Short, short_zero, relative, nearest_short}
use Rattle.binary64.proofs.Value.{rounded, hi_of, lo_of, whole}

-- r = hr - lr is near x + y
abbrev pub Law : ℕ → ℕ → ℕ → ℕ → ℕ → ℕ → ℕ → ℕ → ℕ → Type 0
Law P hr lr hx lx hy ly X Y =
    (gap (hr + lx + ly) (lr + hx + hy) * P ≤ gap (hx + hy) (lx + ly)) × (gap (hr + lx + ly) (lr + hx + hy) ≤ X) × (gap (hr + lx + ly) (lr + hx + hy) ≤ Y)

law_of : (P hr lr hx lx hy ly X Y d N : ℕ) → gap (hr + lx + ly) (lr + hx + hy) ≡ d → gap (hx + hy) (lx + ly) ≡ N → d * P ≤ N → d ≤ X → d ≤ Y
    → Law P hr lr hx lx hy ly X Y
law_of P hr lr hx lx hy ly X Y d N p q a b c =
    (le_trans (le_of_eq (ap (λ (x : ℕ). x * P) p)) (le_trans a (le_of_eq (sym q))), le_trans (le_of_eq p) b, le_trans (le_of_eq p) c)

-- ---- distances
gap_as : (a b g n z : ℕ) → a ≡ g + z → b ≡ n + z → gap a b ≡ gap g n
gap_as a b g n z p q = omega arith

gap_swapped : (a b g n z : ℕ) → a ≡ n + z → b ≡ g + z → gap a b ≡ gap g n
gap_swapped a b g n z p q = omega arith

gap_is : (a b n w : ℕ) → a ≡ n + w → b ≡ w → gap a b ≡ n
gap_is a b n w p q = omega arith

gap_is' : (a b n w : ℕ) → a ≡ w → b ≡ n + w → gap a b ≡ n
gap_is' a b n w p q = omega arith

-- an error d that is at most the distance of X, or of 0, from N
to_sum : (d X Y N : ℕ) → d ≤ gap X N → N ≡ X + Y → d ≤ Y
to_sum d X Y N h e = omega arith

to_difference : (d X Y N : ℕ) → d ≤ gap Y N → N + X ≡ Y → d ≤ X
to_difference d X Y N h e = omega arith

to_zero : (d X Y N : ℕ) → d ≤ gap 0 N → N + X ≡ Y → d ≤ Y
to_zero d X Y N h e = omega arith

none_left : (g N : ℕ) → gap g N ≤ gap 0 N → N ≡ 0 → g ≡ 0
none_left g N h e = omega arith

-- the exact sum is N, or -N, and r is g, or -g
forward : (P hr lr hx lx hy ly X Y g N z w : ℕ) → hr + lx + ly ≡ g + z → lr + hx + hy ≡ N + z → hx + hy ≡ N + w → lx + ly ≡ w → gap g N * P ≤ N
    → gap g N ≤ X → gap g N ≤ Y → Law P hr lr hx lx hy ly X Y
forward P hr lr hx lx hy ly X Y g N z w p q u v a b c =
    law_of P hr lr hx lx hy ly X Y (gap g N) N (gap_as (hr + lx + ly) (lr + hx + hy) g N z p q) (gap_is (hx + hy) (lx + ly) N w u v) a b c

backward : (P hr lr hx lx hy ly X Y g N z w : ℕ) → hr + lx + ly ≡ N + z → lr + hx + hy ≡ g + z → hx + hy ≡ w → lx + ly ≡ N + w → gap g N * P ≤ N
    → gap g N ≤ X → gap g N ≤ Y → Law P hr lr hx lx hy ly X Y
backward P hr lr hx lx hy ly X Y g N z w p q u v a b c =
    law_of P hr lr hx lx hy ly X Y (gap g N) N (gap_swapped (hr + lx + ly) (lr + hx + hy) g N z p q) (gap_is' (hx + hy) (lx + ly) N w u v) a b c

-- x and y have the sign s
same_sign : (P g X Y : ℕ) (s : Bool) (hr lr : ℕ) → hr ≡ cond s 0 g → lr ≡ cond s g 0 → gap g (X + Y) * P ≤ X + Y → gap g (X + Y) ≤ gap X (X + Y)
    → gap g (X + Y) ≤ gap Y (X + Y)
    → Law P hr lr (cond s 0 X) (cond s X 0) (cond s 0 Y) (cond s Y 0) X Y
same_sign P g X Y false hr lr h l a b c =
    forward P hr lr X 0 Y 0 X Y g (X + Y) 0 0 (omega arith) (omega arith) (omega arith) (omega arith) a (to_sum (gap g (X + Y)) Y X (X + Y) c (omega arith))
    (to_sum (gap g (X + Y)) X Y (X + Y) b refl)
same_sign P g X Y true hr lr h l a b c =
    backward P hr lr 0 X 0 Y X Y g (X + Y) 0 0 (omega arith) (omega arith) (omega arith) (omega arith) a
    (to_sum (gap g (X + Y)) Y X (X + Y) c (omega arith)) (to_sum (gap g (X + Y)) X Y (X + Y) b refl)

-- y has the sign t and x has not, and y is no smaller
right_larger : (P g N X Y : ℕ) (t : Bool) (hr lr : ℕ) → hr ≡ cond t 0 g → lr ≡ cond t g 0 → N + X ≡ Y → gap g N * P ≤ N → gap g N ≤ gap Y N → gap g N ≤ gap 0 N
    → Law P hr lr (cond t X 0) (cond t 0 X) (cond t 0 Y) (cond t Y 0) X Y
right_larger P g N X Y false hr lr h l e a b c =
    forward P hr lr 0 X Y 0 X Y g N X X (omega arith) (omega arith) (omega arith) (omega arith) a (to_difference (gap g N) X Y N b e)
    (to_zero (gap g N) X Y N c e)
right_larger P g N X Y true hr lr h l e a b c =
    backward P hr lr X 0 0 Y X Y g N X X (omega arith) (omega arith) (omega arith) (omega arith) a (to_difference (gap g N) X Y N b e)
    (to_zero (gap g N) X Y N c e)

-- x has the sign s and y has not, and x is no smaller
left_larger : (P g N X Y : ℕ) (s : Bool) (hr lr : ℕ) → hr ≡ cond s 0 g → lr ≡ cond s g 0 → N + Y ≡ X → gap g N * P ≤ N → gap g N ≤ gap X N → gap g N ≤ gap 0 N
    → Law P hr lr (cond s 0 X) (cond s X 0) (cond s Y 0) (cond s 0 Y) X Y
left_larger P g N X Y false hr lr h l e a b c =
    forward P hr lr X 0 0 Y X Y g N Y Y (omega arith) (omega arith) (omega arith) (omega arith) a (to_zero (gap g N) Y X N c e)
    (to_difference (gap g N) Y X N b e)
left_larger P g N X Y true hr lr h l e a b c =
    backward P hr lr 0 X Y 0 X Y g N Y Y (omega arith) (omega arith) (omega arith) (omega arith) a (to_zero (gap g N) Y X N c e)
    (to_difference (gap g N) Y X N b e)

signless_hi : (o s : Bool) (g : ℕ) → g ≡ 0 → cond o 0 g ≡ cond s 0 g
signless_hi true true g e = refl
signless_hi true false g e = sym e
signless_hi false true g e = e
signless_hi false false g e = refl

signless_lo : (o s : Bool) (g : ℕ) → g ≡ 0 → cond o g 0 ≡ cond s g 0
signless_lo true true g e = refl
signless_lo true false g e = e
signless_lo false true g e = sym e
signless_lo false false g e = refl

-- ---- fractions with one denominator
pub add_is : (a b c X Y L : ℕ) → a * L ≡ X * c → b * L ≡ Y * c → (a + b) * L ≡ (X + Y) * c
add_is a b c X Y L p q = omega arith

pub sub_is : (a b c X Y L : ℕ) → a * L ≡ X * c → b * L ≡ Y * c → (b - a) * L ≡ (Y - X) * c
sub_is a b c X Y L p q =
    mul_comm (b - a) L
    ∙ mul-sub L b a
    ∙ ap (λ (x : ℕ). x - L * a) (mul_comm L b ∙ q ∙ mul_comm Y c)
    ∙ ap (λ (x : ℕ). c * Y - x) (mul_comm L a ∙ p ∙ mul_comm X c)
    ∙ sym (mul-sub c Y X)
    ∙ mul_comm c (Y - X)

pub le_is : (a b c X Y L : ℕ) → 0 < c → a * L ≡ X * c → b * L ≡ Y * c → a ≤ b → X ≤ Y
le_is a b c X Y L C p q h = le_of_mul-le-mul_right (le_trans (le_of_eq (sym p)) (le_trans (mul-le-mul_right L h) (le_of_eq q))) C

pub restored : (X Y : ℕ) → X ≤ Y → Y - X + X ≡ Y
restored X Y h = omega arith

no_less : (X Y : ℕ) → X ≤ Y → X - Y ≡ 0
no_less X Y h = omega arith

module _ (f : Format) (a b c X Y : ℕ) (C : 0 < c) (p : a * 2 ^ low f ≡ X * c) (q : b * 2 ^ low f ≡ Y * c) (SX : Short (prec f) X) (SY : Short (prec f) Y) where
  near : (N : ℕ) → gap (grid (prec f) N) N * 2 ^ prec f ≤ N
  near N = relative (prec f) N (two-le_pos (prec f) (two f))

  from : (N W : ℕ) → Short (prec f) W → gap (grid (prec f) N) N ≤ gap W N
  from N W S = nearest_short (prec f) N W (two-le_pos (prec f) (two f)) S

  plus : (s : Bool) → T (finite (round f s (a + b) c))
      → Law (2 ^ prec f) (hi f (round f s (a + b) c)) (lo f (round f s (a + b) c)) (cond s 0 X) (cond s X 0) (cond s 0 Y) (cond s Y 0) X Y
  plus s t =
      let r = round f s (a + b) c in
      let g = grid (prec f) (X + Y) in
      let v = rounded f s (a + b) c (X + Y) C (add_is a b c X Y (2 ^ low f) p q) t in
      same_sign (2 ^ prec f) g X Y s (hi f r) (lo f r) (hi_of f r s g v) (lo_of f r s g v) (near (X + Y)) (from (X + Y) X SX) (from (X + Y) Y SY)

  right : (t : Bool) → a ≤ b → T (finite (round f t (b - a) c))
      → Law (2 ^ prec f) (hi f (round f t (b - a) c)) (lo f (round f t (b - a) c)) (cond t X 0) (cond t 0 X) (cond t 0 Y) (cond t Y 0) X Y
  right t h u =
      let r = round f t (b - a) c in
      let N = Y - X in
      let g = grid (prec f) N in
      let v = rounded f t (b - a) c N C (sub_is a b c X Y (2 ^ low f) p q) u in
      right_larger (2 ^ prec f) g N X Y t (hi f r) (lo f r) (hi_of f r t g v) (lo_of f r t g v) (restored X Y (le_is a b c X Y (2 ^ low f) C p q h))
      (near N) (from N Y SY) (from N 0 (short_zero (prec f)))

  -- the result has the sign s, or it is zero
  left : (s o : Bool) → b ≤ a → (a ≤ b) ⊎ (o ≡ s) → T (finite (round f o (a - b) c))
      → Law (2 ^ prec f) (hi f (round f o (a - b) c)) (lo f (round f o (a - b) c)) (cond s 0 X) (cond s X 0) (cond s Y 0) (cond s 0 Y) X Y
  left s o h z u =
      let r = round f o (a - b) c in
      let N = X - Y in
      let g = grid (prec f) N in
      let v = rounded f o (a - b) c N C (sub_is b a c Y X (2 ^ low f) q p) u in
      let w = from N 0 (short_zero (prec f)) in
      let gone : a ≤ b → g ≡ 0 = λ k. none_left g N w (no_less X Y (le_is a b c X Y (2 ^ low f) C p q k)) in
      let hs : hi f r ≡ cond s 0 g = hi_of f r o g v ∙ elim z [ inl k ↦ signless_hi o s g (gone k) | inr e ↦ ap (λ (i : Bool). cond i 0 g) e ] in
      let ls : lo f r ≡ cond s g 0 = lo_of f r o g v ∙ elim z [ inl k ↦ signless_lo o s g (gone k) | inr e ↦ ap (λ (i : Bool). cond i g 0) e ] in
      left_larger (2 ^ prec f) g N X Y s (hi f r) (lo f r) hs ls (restored Y X (le_is b a c Y X (2 ^ low f) C q p h)) (near N) (from N X SX) w

  shown : (s : Bool) → b ≤ a → (a ≤ b) ⊎ ((s && ltb b a) ≡ s)
  shown s h = go s (ltb b a) (nltb→le b a)
    where
      go : (s x : Bool) → (T (not x) → a ≤ b) → (a ≤ b) ⊎ ((s && x) ≡ s)
      go true true k = inr refl
      go false x k = inr refl
      go true false k = inl (k tt)

  sum_law : (s t : Bool) → T (finite (sum f s a t b c))
      → Law (2 ^ prec f) (hi f (sum f s a t b c)) (lo f (sum f s a t b c)) (cond s 0 X) (cond s X 0) (cond t 0 Y) (cond t Y 0) X Y
  unfolding sum
  sum_law true true u = plus true u
  sum_law false false u = plus false u
  sum_law true false u = go (ltb a b) (ltb→lt a b) (nltb→le a b) u
    where
      go : (x : Bool) → (T x → a < b) → (T (not x) → b ≤ a) → T (finite (cond x (round f false (b - a) c) (round f (ltb b a) (a - b) c)))
          → Law (2 ^ prec f) (hi f (cond x (round f false (b - a) c) (round f (ltb b a) (a - b) c)))
          (lo f (cond x (round f false (b - a) c) (round f (ltb b a) (a - b) c))) 0 X Y 0 X Y
      go true h k u = right false (le_of_lt (h tt)) u
      go false h k u = left true (ltb b a) (k tt) (shown true (k tt)) u
  sum_law false true u = go (ltb a b) (ltb→lt a b) (nltb→le a b) u
    where
      go : (x : Bool) → (T x → a < b) → (T (not x) → b ≤ a) → T (finite (cond x (round f true (b - a) c) (round f false (a - b) c)))
          → Law (2 ^ prec f) (hi f (cond x (round f true (b - a) c) (round f false (a - b) c)))
          (lo f (cond x (round f true (b - a) c) (round f false (a - b) c))) X 0 0 Y X Y
      go true h k u = right true (le_of_lt (h tt)) u
      go false h k u = left false false (k tt) (inr refl) u

-- ---- the law
-- a fraction xm / de that is X units, over the denominator de * dd
pub over_left : (xm de dd X L : ℕ) → xm * L ≡ X * de → xm * dd * L ≡ X * (de * dd)
over_left xm de dd X L e = mul_right_comm xm dd L ∙ ap (λ (z : ℕ). z * dd) e ∙ mul_assoc X de dd

pub over_right : (ym de dd Y L : ℕ) → ym * L ≡ Y * dd → ym * de * L ≡ Y * (de * dd)
over_right ym de dd Y L e = mul_right_comm ym de L ∙ ap (λ (z : ℕ). z * de) e ∙ mul_assoc Y dd de ∙ ap (λ (z : ℕ). Y * z) (mul_comm dd de)

pub add_law : (f : Format) (x y : Float) → T (fits f x) → T (fits f y) → T (finite (add f x y))
    → Law (2 ^ prec f) (hi f (add f x y)) (lo f (add f x y)) (hi f x) (lo f x) (hi f y) (lo f y) (count f x) (count f y)
unfolding add hi lo
add_law f nan y a b t = absurd t
add_law f (inf s) nan a b t = absurd t
add_law f (inf true) (inf true) a b t = absurd t
add_law f (inf true) (inf false) a b t = absurd t
add_law f (inf false) (inf true) a b t = absurd t
add_law f (inf false) (inf false) a b t = absurd t
add_law f (inf s) (fin u n d) a b t = absurd t
add_law f (fin s m e) nan a b t = absurd t
add_law f (fin s m e) (inf u) a b t = absurd t
add_law f (fin s m e) (fin u n d) a b t =
    let x = fin s m e in
    let y = fin u n d in
    let wx = whole f s m e a in
    let wy = whole f u n d b in
    sum_law f (m * up e * down d) (n * up d * down e) (down e * down d) (count f x) (count f y) (mul-pos (down_pos e) (down_pos d))
    (over_left (m * up e) (down e) (down d) (count f x) (2 ^ low f) wx.0) (over_right (n * up d) (down e) (down d) (count f y) (2 ^ low f) wy.0) wx.1 wy.1 s u t
