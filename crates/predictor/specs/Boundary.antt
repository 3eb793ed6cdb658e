-- The coefficients of all faces: those with two cells first, then linked and fixed-value faces, in face order. Definitions only.
use Rattle.refusal.specs.declared.Reason.TheVariants.{BadSize, WrongLength, OtherMesh}
use Rattle.std.specs.Prelude.{◌≡◌, List, [], ◌∷◌, ◌&&◌, cond, ℕ, ◌-◌, ◌*◌, ◌<◌, ◌≤◌, eqb, length, get_or, Float, Ok}
use Rattle.std.specs.Float.{nan}
use Rattle.binary64.specs.Numbers.{zero64}
use Rattle.mesh.specs.Answers.{pass, first_of, or_else, Answer, Outcome, accepted}
use Rattle.mesh.specs.Checks.{sizes_ok}
use Rattle.mesh.specs.Mesh.{Bounds, Conditions, bounds_of, conditions_sized, grid_links}
use Rattle.mesh.specs.Pass.{values_of, handed_out, if_refused}
use Rattle.mesh.specs.Records.{neighbour_at, peer_at, face_centre, face_area, centre, condition_at}
use Rattle.vector.specs.Vector.{difference}
use Rattle.mesh.specs.declared.Condition.{Condition}
use Rattle.mesh.specs.declared.Condition.TheVariants.{Absent, Fixed, ZeroGradient}
use Rattle.mesh.specs.declared.Counts.{Counts}
use Rattle.coupling.specs.Face.{distances, linked_coefficient, fixed_coefficient}
use Rattle.predictor.specs.Coefficients.{internal_at, coefficient_answer, coefficients}
use Rattle.coupling.specs.Grid.{Grid, Field, own_cell, peer_cell, linked_span, pair_at, grid_sized}
use Rattle.passes.specs.Staged.{two_refusals}

-- at a face without a link a fixed value has a coefficient; a zero gradient, and an absent condition, have none
unfoldable pub by_condition : Grid → List Float → ℕ → Condition → Outcome
by_condition m responses f (Fixed v) =
    let away = difference (face_centre m.geometry f) (centre m.places (own_cell m f)) in
    fixed_coefficient (face_area m.geometry f) away (get_or responses (own_cell m f) nan)
by_condition m responses f ZeroGradient = Ok zero64
by_condition m responses f Absent = Ok zero64

-- the other cell of a linked face is the peer's owner, seen from this side
unfoldable pub linked_at : Grid → Bounds → List Float → ℕ → Outcome
linked_at m k responses f =
    let s = linked_span m k f in
    linked_coefficient s (distances s) (pair_at m responses f (peer_cell m k f))

-- a face with one cell: its link is looked at before its condition
unfoldable pub boundary_at : Grid → Bounds → List Float → ℕ → Outcome
boundary_at m k responses f =
    cond (eqb (peer_at k.codes f) 0) (by_condition m responses f (condition_at k.codes k.values f)) (linked_at m k responses f)

-- any face
unfoldable pub coefficient_at : Grid → Bounds → List Float → ℕ → Outcome
coefficient_at m k responses f = cond (eqb (neighbour_at m.adjacency f) 0) (boundary_at m k responses f) (internal_at m responses f)

abbrev pub boundary_answer : Grid → Bounds → List Float → ℕ → Answer
boundary_answer m k responses faces = two_refusals (internal_at m responses) (coefficient_at m k responses) faces

abbrev pub boundary_coefficients : Grid → Bounds → List Float → ℕ → List Float
boundary_coefficients m k responses faces = values_of (coefficient_at m k responses) faces

-- a list that holds the coefficients of the faces with two cells, none of which refuses
abbrev pub Begun : Grid → List Float → List Float → Type 0
Begun m responses l = (coefficient_answer m responses (length l) ≡ accepted) × (l ≡ coefficients m responses (length l))

-- ---- the entry

-- those of shape, and those of a grid with links; `outs` is the length of the output
unfoldable pub boundary_checks : Counts → Grid → Conditions → Field → ℕ → Answer
boundary_checks n m k responses outs =
    first_of
    (pass BadSize (sizes_ok n)
    ∷ pass WrongLength (grid_sized n m && conditions_sized n.faces k.codes k.values && eqb (length responses.values) n.cells && eqb outs n.faces)
    ∷ pass OtherMesh (eqb k.number n.mesh && eqb responses.number n.mesh)
    ∷ grid_links n.cells m.adjacency m.geometry m.places k.codes
    ∷ [])

-- the answer, and what the output holds after the call: untouched where a check refuses, +0.0 where arithmetic does
pub record BoundaryCall (n : Counts) (m : Grid) (k : Conditions) (responses : Field) (old : List Float) (r : Answer) (new : List Float) : Type 0 where
  pub answer : r ≡ or_else (boundary_checks n m k responses (length old)) (boundary_answer m (bounds_of k) responses.values n.faces)
  pub out :
      new ≡ if_refused (boundary_checks n m k responses (length old)) old
      (handed_out r n.faces (boundary_coefficients m (bounds_of k) responses.values n.faces))

-- what the checks establish of the conditions of so many faces
pub record Bounded (k : Bounds) (faces : ℕ) : Type 0 where
  pub codes : length k.codes ≡ 2 * faces
  pub values : length k.values ≡ 4 * faces
  pub peers : (f : ℕ) → f < faces → peer_at k.codes f ≤ faces
