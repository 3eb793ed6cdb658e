-- Sums of integers over an index, exact sums of lists, and the triangle inequality. Assumes nothing.
use mathlib.Core.Path.{◌≡◌, refl, sym, ap, ap₂, ◌∙◌, subst}
use mathlib.Core.List.{List, [], ◌∷◌, ◌++◌}
use mathlib.Core.Logic.{⊎_elim}
use mathlib.Core.Bool.{Bool, true, false, cond}
use Prim.Native.Nat.{ℕ, zero, suc, ◌+◌, ◌≤◌, ◌<◌}
use native.Mathlib.Nat.{le_trans, le_of_eq, le_of_suc-le-suc, eq-or-lt_of_le}
use native.Mathlib.Omega.{arith}
use borrow.Author.Tests.{eq-eqb, ne_eqb}
use lib.Dec.{eqb}
use lib.IntN.{ℤ, pos, negsuc, neg_ℤ, nat_abs, sub_ℕ, ◌+ℤ◌, ◌-ℤ◌, +ℤ_assoc, +ℤ_idr, +ℤ_idl, neg_ℤ-+ℤ}
use lib.ListN.{length, take, get_or}
use lib.Seq.{take-suc}
use lib.Ieee.{Float, nan, binary64}
use Rattle.binary64.specs.Units.{signed_count, exact_total}
use Rattle.binary64.proofs.Parts.{gap}
use Rattle.binary64.proofs.Integers.{four, pos_is, neg_is, sub-add, abs-sub}
use Rattle.numerics.specs.Outflow.{only}

-- ---- the triangle inequality
parts : (z : ℤ) → (p : ℕ) × ((q : ℕ) × (z ≡ sub_ℕ p q))
parts (pos n) = (n, (0, pos_is n))
parts (negsuc n) = (0, (suc n, neg_is (suc n)))

triangle_at : (p q r s : ℕ) → nat_abs (sub_ℕ p q +ℤ sub_ℕ r s) ≤ nat_abs (sub_ℕ p q) + nat_abs (sub_ℕ r s)
triangle_at p q r s =
    le_trans (le_of_eq (ap nat_abs (sub-add p q r s) ∙ abs-sub (p + r) (q + s)))
    (le_trans (gaps p q r s) (le_of_eq (ap₂ (λ (x y : ℕ). x + y) (sym (abs-sub p q)) (sym (abs-sub r s)))))
  where
    gaps : (p q r s : ℕ) → gap (p + r) (q + s) ≤ gap p q + gap r s
    gaps p q r s = omega arith

pub triangle : (a b : ℤ) → nat_abs (a +ℤ b) ≤ nat_abs a + nat_abs b
triangle a b =
    let u = parts a in
    let w = parts b in
    subst (λ (z : ℤ). nat_abs (z +ℤ b) ≤ nat_abs z + nat_abs b) (sym u.1.1)
    (subst (λ (z : ℤ). nat_abs (sub_ℕ u.0 u.1.0 +ℤ z) ≤ nat_abs (sub_ℕ u.0 u.1.0) + nat_abs z) (sym w.1.1) (triangle_at u.0 u.1.0 w.0 w.1.0))

-- the difference of two sums
pub apart : (a b c d : ℤ) → (a +ℤ b) -ℤ (c +ℤ d) ≡ (a -ℤ c) +ℤ (b -ℤ d)
apart a b c d = ap (λ (z : ℤ). (a +ℤ b) +ℤ z) (neg_ℤ-+ℤ c d) ∙ four a b (neg_ℤ c) (neg_ℤ d)

-- ---- g 0 + .. + g (n - 1)
unfoldable pub sum_to : (ℕ → ℤ) → ℕ → ℤ
sum_to g zero = pos 0
sum_to g (suc n) = sum_to g n +ℤ g n

pub sum_to_is : (g h : ℕ → ℤ) (n : ℕ) → ((c : ℕ) → g c ≡ h c) → sum_to g n ≡ sum_to h n
unfolding sum_to
sum_to_is g h zero e = refl
sum_to_is g h (suc n) e = ap₂ (λ (x y : ℤ). x +ℤ y) (sum_to_is g h n e) (e n)

pub sum_to_add : (g h : ℕ → ℤ) (n : ℕ) → sum_to (λ (c : ℕ). g c +ℤ h c) n ≡ sum_to g n +ℤ sum_to h n
unfolding sum_to
sum_to_add g h zero = refl
sum_to_add g h (suc n) = ap (λ (z : ℤ). z +ℤ (g n +ℤ h n)) (sum_to_add g h n) ∙ four (sum_to g n) (sum_to h n) (g n) (h n)

pub sum_to_zero : (n : ℕ) → sum_to (λ (c : ℕ). pos 0) n ≡ pos 0
unfolding sum_to
sum_to_zero zero = refl
sum_to_zero (suc n) = ap (λ (z : ℤ). z +ℤ pos 0) (sum_to_zero n)

-- a at the index o, and 0 elsewhere
unfoldable pub at : ℤ → ℕ → ℕ → ℤ
at a o c = cond (eqb o c) a (pos 0)

at_other : (a : ℤ) (o c : ℕ) → (o ≡ c → ⊥) → at a o c ≡ pos 0
unfolding at
at_other a o c h = ap (λ (b : Bool). cond b a (pos 0)) (ne_eqb o c h)

at_same : (a : ℤ) (o c : ℕ) → o ≡ c → at a o c ≡ a
unfolding at
at_same a o c h = ap (λ (b : Bool). cond b a (pos 0)) (eq-eqb o c h)

beyond : (o n : ℕ) → suc n ≤ o → o ≡ n → ⊥
beyond o n h e = omega arith

sum_to_none : (a : ℤ) (o n : ℕ) → n ≤ o → sum_to (at a o) n ≡ pos 0
unfolding sum_to
sum_to_none a o zero h = refl
sum_to_none a o (suc n) h = ap₂ (λ (x y : ℤ). x +ℤ y) (sum_to_none a o n (omega arith)) (at_other a o n (beyond o n h))

pub sum_to_one : (a : ℤ) (o n : ℕ) → o < n → sum_to (at a o) n ≡ a
unfolding sum_to
sum_to_one a o zero h = absurd (omega arith)
sum_to_one a o (suc n) h =
    ⊎_elim
    (λ (e : o ≡ n). ap₂ (λ (x y : ℤ). x +ℤ y) (sum_to_none a o n (omega arith)) (at_same a o n e) ∙ +ℤ_idl a)
    (λ (l : o < n). ap₂ (λ (x y : ℤ). x +ℤ y) (sum_to_one a o n l) (at_other a o n (before o n l)) ∙ +ℤ_idr a)
    (eq-or-lt_of_le (le_of_suc-le-suc h))
  where
    before : (o n : ℕ) → o < n → o ≡ n → ⊥
    before o n l e = omega arith

-- ---- exact sums of lists
pub sum-append : (xs ys : List Float) → exact_total binary64 (xs ++ ys) ≡ exact_total binary64 xs +ℤ exact_total binary64 ys
unfolding exact_total
sum-append [] ys = sym (+ℤ_idl (exact_total binary64 ys))
sum-append (x ∷ xs) ys = ap (λ (z : ℤ). signed_count binary64 x +ℤ z) (sum-append xs ys) ∙ sym (+ℤ_assoc (signed_count binary64 x) (exact_total binary64 xs) (exact_total binary64 ys))

pub sum-only : (b : Bool) (x : Float) → exact_total binary64 (only b x) ≡ cond b (signed_count binary64 x) (pos 0)
unfolding exact_total
sum-only true x = +ℤ_idr (signed_count binary64 x)
sum-only false x = refl

pub sum-take : (l : List Float) (n : ℕ) → n < length l → exact_total binary64 (take (suc n) l) ≡ exact_total binary64 (take n l) +ℤ signed_count binary64 (get_or l n nan)
sum-take l n h = ap (exact_total binary64) (take-suc l n nan h) ∙ sum-append (take n l) (get_or l n nan ∷ []) ∙ ap (λ (z : ℤ). exact_total binary64 (take n l) +ℤ z) (single (get_or l n nan))
  where
    single : (x : Float) → exact_total binary64 (x ∷ []) ≡ signed_count binary64 x
    single x = sum-only true x
