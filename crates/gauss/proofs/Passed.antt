-- What the checks of each entry establish. Assumes nothing.
use Rattle.refusal.specs.declared.Reason.TheVariants.{WrongLength}
use mathlib.Core.Path.{◌≡◌}
use mathlib.Core.Bool.{◌&&◌}
use Prim.Native.Nat.{ℕ, ◌*◌}
use lib.Dec.{eqb}
use lib.ListN.{length}
use borrow.Author.Tests.{eqb-true}
use Rattle.chain.proofs.Truth.{and_true}
use Rattle.mesh.specs.Answers.{accepted}
use Rattle.mesh.specs.Mesh.{Conditions, bounds_of, conditions_sized}
use Rattle.mesh.specs.declared.Counts.{Counts}
use Rattle.mesh.proofs.Facts.{all_accepted, passed}
use Rattle.coupling.specs.Grid.{Grid, Field, Coupled, grid_sized}
use Rattle.coupling.proofs.Coupled.{coupled_by, sides_coupled}
use Rattle.predictor.specs.Boundary.{Bounded}
use Rattle.predictor.proofs.Linked.{links_coupled}
use Rattle.gauss.specs.Calls.{field_checks, bounded_checks}

pub field_passed : (n : Counts) (m : Grid) (x : Field) (items outs : ℕ) → field_checks n m x items outs ≡ accepted
    → Coupled m n.cells n.faces × (length x.values ≡ items) × (outs ≡ 3 * n.cells)
unfolding field_checks
field_passed n m x items outs h =
    let s = all_accepted _ h in
    let w = and_true (grid_sized n m && eqb (length x.values) items) (eqb outs (3 * n.cells)) (passed WrongLength _ (s 1)) in
    let v = and_true (grid_sized n m) (eqb (length x.values) items) w.0 in
    (sides_coupled n m v.0 (s 3), eqb-true _ _ v.1, eqb-true _ _ w.1)

-- for a field of the cells
pub cells_passed : (n : Counts) (m : Grid) (x : Field) (outs : ℕ) → field_checks n m x n.cells outs ≡ accepted
    → Coupled m n.cells n.faces × Coupled m (length x.values) n.faces × (outs ≡ 3 * n.cells)
cells_passed n m x outs h =
    let w = field_passed n m x n.cells outs h in
    (w.0, coupled_by m n.cells n.faces (length x.values) w.1 w.0, w.2)

pub bounded_passed : (n : Counts) (m : Grid) (k : Conditions) (x : Field) (outs : ℕ) → bounded_checks n m k x outs ≡ accepted
    → Coupled m n.cells n.faces × Coupled m (length x.values) n.faces × Bounded (bounds_of k) n.faces × (outs ≡ 3 * n.cells)
unfolding bounded_checks
bounded_passed n m k x outs h =
    let bound = conditions_sized n.faces k.codes k.values in
    let s = all_accepted _ h in
    let w = and_true (grid_sized n m && bound && eqb (length x.values) n.cells) (eqb outs (3 * n.cells)) (passed WrongLength _ (s 1)) in
    let v = and_true (grid_sized n m && bound) (eqb (length x.values) n.cells) w.0 in
    let linked = links_coupled n m k v.0 (s 3) in
    (linked.0, coupled_by m n.cells n.faces (length x.values) (eqb-true _ _ v.1) linked.0, linked.1, eqb-true _ _ w.1)
