-- The exact sum of all cells' terms is the exact sum of the fluxes of the faces with one cell. Assumes nothing.
use mathlib.Core.Path.{◌≡◌, sym, ap, ap₂, ◌∙◌}
use mathlib.Core.Bool.{Bool, true, false, cond}
use Prim.Native.Nat.{ℕ, zero, suc, ◌≤◌, ◌<◌}
use native.Mathlib.Omega.{arith}
use lib.Dec.{eqb, eqb-zero-suc, eqb-suc-zero, eqb-suc-suc}
use lib.IntN.{ℤ, pos, ◌+ℤ◌, +ℤ_idr, +ℤ_invr}
use lib.Ieee.{Float, binary64, neg}
use Rattle.binary64.specs.Units.{signed_count, exact_total}
use Rattle.binary64.proofs.Sign.{signed_count-neg}
use Rattle.numerics.specs.Outflow.{Faces, only, up_to, face_terms}
use Rattle.balance.specs.Balance.{one_cell_flux}
use Rattle.balance.proofs.Sums.{sum_to, sum_to_is, sum_to_add, sum_to_zero, sum_to_one, at, sum-append, sum-only}

-- a term at the cell whose number plus one is n, over all cells: nothing where n is 0
abbrev after : ℤ → ℕ → ℕ → ℤ
after a n c = cond (eqb n (suc c)) a (pos 0)

after-zero : (a : ℤ) (k : ℕ) → sum_to (after a 0) k ≡ pos 0
after-zero a k = sum_to_is (after a 0) (λ (c : ℕ). pos 0) k (λ c. ap (λ (b : Bool). cond b a (pos 0)) (eqb-zero-suc c)) ∙ sum_to_zero k

after-suc : (a : ℤ) (n k : ℕ) → n < k → sum_to (after a (suc n)) k ≡ a
unfolding at
after-suc a n k h = sum_to_is (after a (suc n)) (at a n) k (λ c. ap (λ (b : Bool). cond b a (pos 0)) (eqb-suc-suc n c)) ∙ sum_to_one a n k h

-- what one face gives all cells: its flux, and its flux negated unless it has one cell
one-face : (v : Float) (n k : ℕ) → n ≤ k → signed_count binary64 v +ℤ sum_to (after (signed_count binary64 (neg v)) n) k ≡ exact_total binary64 (only (eqb n 0) v)
one-face v zero k h =
    ap (λ (z : ℤ). signed_count binary64 v +ℤ z) (after-zero (signed_count binary64 (neg v)) k) ∙ +ℤ_idr (signed_count binary64 v) ∙ sym (sum-only true v)
one-face v (suc n) k h =
    ap (λ (z : ℤ). signed_count binary64 v +ℤ z) (after-suc (signed_count binary64 (neg v)) n k h ∙ signed_count-neg binary64 v)
    ∙ +ℤ_invr (signed_count binary64 v)
    ∙ sym (sum-only false v)
    ∙ ap (λ (b : Bool). exact_total binary64 (only b v)) (sym (eqb-suc-zero n))

module _ (m : Faces) (cells : ℕ) where
  -- the exact sum of the terms that the faces below n give the cell c
  abbrev pub cell_sum : ℕ → ℕ → ℤ
  cell_sum n c = exact_total binary64 (up_to (face_terms m c) n)

  face_sum : (f : ℕ) → m.owner f < cells → m.neighbour f ≤ cells → sum_to (λ (c : ℕ). exact_total binary64 (face_terms m c f)) cells ≡ exact_total binary64 (one_cell_flux m f)
  unfolding face_terms one_cell_flux at
  face_sum f ho hn =
      let v = m.flux f in
      sum_to_is (λ (c : ℕ). exact_total binary64 (face_terms m c f)) (λ (c : ℕ). at (signed_count binary64 v) (m.owner f) c +ℤ after (signed_count binary64 (neg v)) (m.neighbour f) c) cells
      (λ c. sum-append (only (eqb (m.owner f) c) v) (only (eqb (m.neighbour f) (suc c)) (neg v)) ∙ ap₂ (λ (x y : ℤ). x +ℤ y) (sum-only (eqb (m.owner f) c) v) (sum-only (eqb (m.neighbour f) (suc c)) (neg v)))
      ∙ sum_to_add (at (signed_count binary64 v) (m.owner f)) (after (signed_count binary64 (neg v)) (m.neighbour f)) cells
      ∙ ap (λ (z : ℤ). z +ℤ sum_to (after (signed_count binary64 (neg v)) (m.neighbour f)) cells) (sum_to_one (signed_count binary64 v) (m.owner f) cells ho)
      ∙ one-face v (m.neighbour f) cells hn

  pub telescope : (n : ℕ) → ((f : ℕ) → f < n → m.owner f < cells) → ((f : ℕ) → f < n → m.neighbour f ≤ cells) → sum_to (cell_sum n) cells ≡ exact_total binary64 (up_to (one_cell_flux m) n)
  unfolding up_to exact_total
  telescope zero ho hn = sum_to_zero cells
  telescope (suc n) ho hn =
      sum_to_is (cell_sum (suc n)) (λ (c : ℕ). cell_sum n c +ℤ exact_total binary64 (face_terms m c n)) cells (λ c. sum-append (up_to (face_terms m c) n) (face_terms m c n))
      ∙ sum_to_add (cell_sum n) (λ (c : ℕ). exact_total binary64 (face_terms m c n)) cells
      ∙ ap₂ (λ (x y : ℤ). x +ℤ y) (telescope n (λ f h. ho f (omega arith)) (λ f h. hn f (omega arith))) (face_sum n (ho n (omega arith)) (hn n (omega arith)))
      ∙ sym (sum-append (up_to (one_cell_flux m) n) (one_cell_flux m n))
