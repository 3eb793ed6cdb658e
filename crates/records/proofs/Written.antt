-- What the checks leave for the loop that writes the records, and the list that it leaves. Assumes nothing.
use mathlib.Core.Path.{◌≡◌, refl, sym, ◌∙◌, ap}
use mathlib.Core.List.{List}
use Prim.Native.Nat.{ℕ, zero, suc, ◌*◌, ◌<◌, ◌≤◌}
use native.Mathlib.Omega.{arith}
use lib.ListN.{length, take, get_or}
use lib.Seq.{take-suc, take_all}
use lib.Ieee.{Float}
use Rattle.mesh.specs.Answers.{accepted}
use Rattle.mesh.specs.declared.Counts.{Counts}
use Rattle.vector.specs.Vector.{zero3}
use Rattle.vector.specs.declared.Vec3.{Vec3}
use Rattle.numerics.specs.Slices.{Slices}
use Rattle.numerics.specs.Gradient.{gradient_at, gradients, gradient_checks, Sloped}
use Rattle.numerics.proofs.Slopes.{slopes}
use Rattle.records.specs.Records.{vectors, records_of}
use Rattle.records.proofs.Records.{regrouped}

listed : (h : ℕ → Vec3) (l : List Vec3) (i : ℕ) → i ≤ length l → ((k : ℕ) → k < i → get_or l k zero3 ≡ h k) → take i l ≡ records_of h i
unfolding records_of
listed h l zero b w = refl
listed h l (suc i) b w = rw (take-suc l i zero3 (omega arith), listed h l i (omega arith) (λ k e. w k (omega (arith, e))), w i (omega arith))

module _ (n : Counts) (stencil records : ℕ) (s : Slices) (number : ℕ) (field : List Float) (outs : ℕ) (checked : gradient_checks n stencil records s number field (3 * outs) ≡ accepted) where
  -- what the work asks, of each record
  pub sloped : Sloped s records field × (length field ≡ outs)
  sloped =
      let p = slopes n stencil records s number field (3 * outs) checked in
      (p.0, omega (arith, p.1, p.2))

  -- a list of so many records, each of them its cell's
  pub written : (l : List Vec3) → length l ≡ outs → ((k : ℕ) → k < outs → get_or l k zero3 ≡ gradient_at s records field k) → l ≡ vectors (gradients s records field n.cells)
  unfolding gradients
  written l e w =
      let h = gradient_at s records field in
      let p = slopes n stencil records s number field (3 * outs) checked in
      let cells : length l ≡ n.cells = omega (arith, p.2, e) in
      let whole : take (length l) l ≡ records_of h (length l) = listed h l (length l) (omega arith) (λ k b. w k (omega (arith, b, e))) in
      sym (take_all (length l) l (omega arith)) ∙ whole ∙ ap (records_of h) cells ∙ sym (regrouped h n.cells)
