-- What the checks of a stencil's entry establish. Assumes nothing.
use Rattle.refusal.specs.declared.Reason.TheVariants.{BadSize, WrongLength}
use mathlib.Core.Path.{◌≡◌}
use mathlib.Core.Bool.{◌&&◌}
use Prim.Native.Nat.{ℕ, ◌*◌, ◌≤◌}
use lib.Dec.{eqb, leb}
use lib.ListN.{length}
use borrow.Author.Tests.{eqb-true, leb-true}
use Rattle.mesh.specs.Answers.{accepted}
use Rattle.mesh.specs.Checks.{largest_count, sizes_ok}
use Rattle.mesh.specs.Mesh.{Mesh, Conditions, mesh_sized, conditions_sized}
use Rattle.chain.proofs.Truth.{and_true, every_at}
use Rattle.mesh.proofs.Facts.{all_accepted, passed}
use Rattle.mesh.proofs.Good.{sized, whole}
use Rattle.stencil.specs.Lent.{lent_of, Buildable}
use Rattle.numerics.specs.Slices.{Slices, lengths_of, stencil_sizes, stencil_sized}
use Rattle.stencil.specs.Checks.{stencil_checks}
use Rattle.stencil.specs.Stencil.{SlicesSized}

pub record Passed (m : Mesh) (k : Conditions) (records : ℕ) (s : Slices) : Type 0 where
  pub buildable : Buildable (lent_of m k)
  pub slices : SlicesSized (lent_of m k) records s
  pub small : records ≤ largest_count

pub passed_checks : (m : Mesh) (k : Conditions) (records : ℕ) (s : Slices) → stencil_checks m k records (lengths_of s) ≡ accepted → Passed m k records s
unfolding stencil_checks
passed_checks m k records s h =
    let shape = mesh_sized m && conditions_sized m.counts.faces k.codes k.values in
    let outs = stencil_sized m.counts.cells records (lengths_of s) in
    let w = all_accepted _ h in
    let counts = and_true (sizes_ok m.counts) (leb records largest_count) (passed BadSize _ (w 0)) in
    let all = and_true shape outs (passed WrongLength _ (w 1)) in
    let lengths = and_true (mesh_sized m) (conditions_sized m.counts.faces k.codes k.values) all.0 in
    let own = and_true (eqb (length k.codes) (2 * m.counts.faces)) (eqb (length k.values) (4 * m.counts.faces)) lengths.1 in
    let fits = every_at (stencil_sizes m.counts.cells records (lengths_of s)) all.1 in
    let z = sized m lengths.0 in
    record {
      buildable = record {
        sized = z;
        codes = eqb-true _ _ own.0;
        values = eqb-true _ _ own.1;
        sound = (whole m k.codes z (eqb-true _ _ own.0) (w 3)).0;
      };
      slices = record {
        starts = eqb-true _ _ (fits 0);
        equations = eqb-true _ _ (fits 1);
        weights = eqb-true _ _ (fits 2);
        inverses = eqb-true _ _ (fits 3);
      };
      small = leb-true records largest_count counts.1;
    }
