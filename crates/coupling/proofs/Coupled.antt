-- What the checks establish of a grid, for a field of its cells. Assumes nothing.
use mathlib.Core.Path.{◌≡◌}
use mathlib.Core.Bool.{true}
use Prim.Native.Nat.{ℕ, ◌<◌}
use native.Mathlib.Omega.{arith}
use borrow.Author.Tests.{eqb-true}
use Rattle.chain.proofs.Truth.{every_at}
use Rattle.mesh.specs.Answers.{accepted}
use Rattle.mesh.specs.Distances.{Carried}
use Rattle.mesh.specs.Facts.{FacesIn, GridSized}
use Rattle.mesh.specs.Mesh.{grid_sides}
use Rattle.mesh.specs.declared.Counts.{Counts}
use Rattle.mesh.proofs.Good.{grid_sides_passed}
use Rattle.coupling.specs.Grid.{Grid, Coupled, grid_sizes, grid_sized}

pub gridded : (n : Counts) (m : Grid) → grid_sized n m ≡ true → GridSized n m.adjacency m.geometry m.places
gridded n m h =
    let w = every_at (grid_sizes n m) h in
    record { adjacency = eqb-true _ _ (w 0); geometry = eqb-true _ _ (w 1); places = eqb-true _ _ (w 2) }

pub coupled : (n : Counts) (m : Grid) → GridSized n m.adjacency m.geometry m.places → FacesIn n.cells m.adjacency
    → ((f : ℕ) → f < n.faces → Carried m.adjacency m.geometry m.places f) → Coupled m n.cells n.faces
coupled n m z faces carried =
    let a = z.adjacency in
    record {
      adjacency = a;
      geometry = z.geometry;
      places = z.places;
      sides = λ f l. faces f (omega (arith, a, l));
      carried = carried;
    }

-- by the length that is at hand
pub coupled_by : (m : Grid) (cells faces c : ℕ) → c ≡ cells → Coupled m cells faces → Coupled m c faces
coupled_by m cells faces c e g = rw e g

-- by the checks of a grid without links
pub sides_coupled : (n : Counts) (m : Grid) → grid_sized n m ≡ true → grid_sides n.cells m.adjacency m.geometry m.places ≡ accepted → Coupled m n.cells n.faces
sides_coupled n m sized passed =
    let z = gridded n m sized in
    let sides = grid_sides_passed n m.adjacency m.geometry m.places z passed in
    coupled n m z sides.0 sides.1
