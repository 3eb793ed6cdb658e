-- What the checks of a lent stencil and a cell field establish. Assumes nothing.
use Rattle.refusal.specs.declared.Reason.TheVariants.{WrongLength, BrokenChain}
use mathlib.Core.Path.{◌≡◌, sym, ◌∙◌}
use mathlib.Core.List.{List}
use mathlib.Core.Bool.{Bool, true, ◌&&◌}
use Prim.Native.Nat.{ℕ, ◌+◌, ◌*◌, ◌/◌}
use native.Mathlib.Omega.{arith}
use lib.Dec.{eqb}
use lib.ListN.{length}
use lib.Ieee.{Float}
use borrow.Author.Tests.{eqb-true}
use Rattle.mesh.specs.Answers.{accepted}
use Rattle.mesh.specs.Facts.{ChainsIn}
use Rattle.mesh.specs.declared.Counts.{Counts}
use Rattle.chain.specs.declared.Form.TheVariants.{Single}
use Rattle.chain.proofs.Truth.{and_true, every_at}
use Rattle.mesh.proofs.Facts.{all_accepted, passed, nothing_at, chains_in}
use Rattle.numerics.specs.Slices.{Slices, lengths_of, stencil_sizes, stencil_sized}
use Rattle.numerics.specs.Gradient.{lent_checks, gradient_checks, Sloped}

-- by the sizes of a stencil of so many cells and records
pub slopes_by : (cells records : ℕ) (s : Slices) (field : List Float)
    → stencil_sized cells records (lengths_of s) ≡ true → length field ≡ cells
    → ChainsIn (cells + 2) s.equations Single s.starts
    → Sloped s records field
slopes_by cells records s field sized v found =
    let w = every_at (stencil_sizes cells records (lengths_of s)) sized in
    let b : length s.starts ≡ cells = eqb-true _ _ (w 0) in
    let e : length s.equations ≡ 2 * records = eqb-true _ _ (w 1) in
    let i : length s.inverses ≡ 9 * cells = eqb-true _ _ (w 3) in
    let half : length s.equations / 2 ≡ records = omega arith in
    record {
      starts = b ∙ sym v;
      equations = e;
      weights = eqb-true _ _ (w 2);
      inverses = omega arith;
      chains = λ c l. rw (v, ← half) (found c (omega arith));
    }

slopes_sized : (n : Counts) (stencil records : ℕ) (s : Slices) (number : ℕ) (field : List Float) (fits : Bool)
    → lent_checks n stencil records s number field fits ≡ accepted
    → Sloped s records field × (length field ≡ n.cells) × (fits ≡ true)
unfolding lent_checks
slopes_sized n stencil records s number field fits h =
    let sized = stencil_sized n.cells records (lengths_of s) in
    let t = all_accepted _ h in
    let all = and_true (sized && eqb (length field) n.cells) fits (passed WrongLength _ (t 1)) in
    let own = and_true sized (eqb (length field) n.cells) all.0 in
    let v : length field ≡ n.cells = eqb-true _ _ own.1 in
    (slopes_by n.cells records s field own.0 v (chains_in (n.cells + 2) s.equations Single s.starts (nothing_at BrokenChain _ (t 3))), v, all.1)

pub slopes : (n : Counts) (stencil records : ℕ) (s : Slices) (number : ℕ) (field : List Float) (outs : ℕ)
    → gradient_checks n stencil records s number field outs ≡ accepted
    → Sloped s records field × (length field ≡ n.cells) × (outs ≡ 3 * n.cells)
slopes n stencil records s number field outs h =
    let w = slopes_sized n stencil records s number field (eqb outs (3 * n.cells)) h in
    (w.0, w.1, eqb-true _ _ w.2)
