-- The gradients by Gauss as they are called for. Definitions only.
use Rattle.refusal.specs.declared.Reason.TheVariants.{BadSize, WrongLength, OtherMesh}
use Rattle.std.specs.Prelude.{◌≡◌, List, [], ◌∷◌, ◌&&◌, ℕ, ◌*◌, eqb, length, Float}
use Rattle.mesh.specs.Answers.{pass, first_of, or_else, Answer}
use Rattle.mesh.specs.Checks.{sizes_ok}
use Rattle.mesh.specs.Mesh.{Conditions, bounds_of, conditions_sized, grid_sides, grid_links}
use Rattle.mesh.specs.Pass.{handed_out, if_refused}
use Rattle.mesh.specs.declared.Counts.{Counts}
use Rattle.coupling.specs.Grid.{Grid, Field, grid_sized}
use Rattle.gauss.specs.Gauss.{face_value, gauss_gradients, volume_answer}
use Rattle.gauss.specs.Pressure.{face_pressure, pressure_without_conditions}

-- those of shape, and those of a grid, for a field of so many items and an output of so many numbers
unfoldable pub field_checks : Counts → Grid → Field → ℕ → ℕ → Answer
field_checks n m x items outs =
    first_of
    (pass BadSize (sizes_ok n)
    ∷ pass WrongLength (grid_sized n m && eqb (length x.values) items && eqb outs (3 * n.cells))
    ∷ pass OtherMesh (eqb x.number n.mesh)
    ∷ grid_sides n.cells m.adjacency m.geometry m.places
    ∷ [])

-- with conditions and links, for a field of the cells
unfoldable pub bounded_checks : Counts → Grid → Conditions → Field → ℕ → Answer
bounded_checks n m k x outs =
    first_of
    (pass BadSize (sizes_ok n)
    ∷ pass WrongLength (grid_sized n m && conditions_sized n.faces k.codes k.values && eqb (length x.values) n.cells && eqb outs (3 * n.cells))
    ∷ pass OtherMesh (eqb k.number n.mesh && eqb x.number n.mesh)
    ∷ grid_links n.cells m.adjacency m.geometry m.places k.codes
    ∷ [])

-- the answer, and what the output holds after the call, by its checks and the values of the faces: untouched where a check
-- refuses, +0.0 where a volume does
pub record GradientCall (checks : Answer) (n : Counts) (m : Grid) (h : ℕ → Float) (old : List Float) (r : Answer) (new : List Float) : Type 0 where
  pub answer : r ≡ or_else checks (volume_answer m.places n.cells)
  pub out : new ≡ if_refused checks old (handed_out r (3 * n.cells) (gauss_gradients m h n.cells n.faces))

-- from the values of the faces, from the pressure with conditions and links, and from the pressure alone
abbrev pub GaussCall : Counts → Grid → Field → List Float → Answer → List Float → Type 0
GaussCall n m x old = GradientCall (field_checks n m x n.faces (length old)) n m (face_value x.values) old

abbrev pub PressureCall : Counts → Grid → Conditions → Field → List Float → Answer → List Float → Type 0
PressureCall n m k p old = GradientCall (bounded_checks n m k p (length old)) n m (face_pressure m (bounds_of k) p.values) old

abbrev pub PressureAloneCall : Counts → Grid → Field → List Float → Answer → List Float → Type 0
PressureAloneCall n m p old = GradientCall (field_checks n m p n.cells (length old)) n m (pressure_without_conditions m p.values) old
