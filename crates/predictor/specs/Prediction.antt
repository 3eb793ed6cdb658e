-- The predicted flux of every face, from the gradient of the pressure. Definitions only.
use Rattle.refusal.specs.declared.Reason.TheVariants.{BadSize, WrongLength, OtherMesh}
use Rattle.std.specs.Prelude.{◌≡◌, List, [], ◌∷◌, Bool, ◌&&◌, cond, ℕ, ◌*◌, eqb, leb, length, get_or, Float, Ok}
use Rattle.std.specs.Float.{nan}
use Rattle.mesh.specs.Answers.{pass, first_of, or_else, Answer, Outcome}
use Rattle.mesh.specs.Checks.{largest_count, sizes_ok}
use Rattle.mesh.specs.Mesh.{grid_with_equations}
use Rattle.mesh.specs.Records.{neighbour_at}
use Rattle.mesh.specs.Pass.{value_of, values_of, handed_out, if_refused}
use Rattle.vector.specs.Vector.{vector_at}
use Rattle.chain.specs.Search.{every_of}
use Rattle.mesh.specs.Lent.{Slice}
use Rattle.mesh.specs.declared.Counts.{Counts}
use Rattle.numerics.specs.Slices.{Slices, lengths_of, stencil_sized}
use Rattle.numerics.specs.Gradient.{gradients}
use Rattle.coupling.specs.Face.{distances, side, predicted_flux}
use Rattle.coupling.specs.declared.Side.{Side}
use Rattle.predictor.specs.Coefficients.{internal_at}
use Rattle.coupling.specs.Grid.{Grid, Field, field_lent, own_cell, other_cell, span, grid_sized}
use Rattle.passes.specs.Staged.{two_refusals}

-- what a flux is predicted from: of the cells the velocity, the pressure, its gradient and the response
pub record Flow : Type 0 where
  pub velocity : List Float
  pub pressure : List Float
  pub gradient : List Float
  pub responses : List Float

abbrev pub flow : List Float → List Float → List Float → List Float → Flow
flow v p g r = record { velocity = v; pressure = p; gradient = g; responses = r }

abbrev pub side_at : Flow → ℕ → Side
side_at q c = side (vector_at q.velocity (3 * c)) (vector_at q.gradient (3 * c)) (get_or q.pressure c nan) (get_or q.responses c nan)

-- a face with one cell keeps the wall flux; one with two cells is predicted with its coefficient
unfoldable pub predicted_at : Grid → Flow → List Float → ℕ → Outcome
predicted_at m q walls f =
    cond (eqb (neighbour_at m.adjacency f) 0) (Ok (get_or walls f nan))
    (predicted_flux (span m f) (distances (span m f)) (value_of (internal_at m q.responses f)) (side_at q (own_cell m f)) (side_at q (other_cell m f)))

-- all refusals of the coefficients come first
abbrev pub prediction_answer : Grid → Flow → List Float → Answer
prediction_answer m q walls = two_refusals (internal_at m q.responses) (predicted_at m q walls) (length walls)

abbrev pub predicted_fluxes : Grid → Flow → List Float → List Float
predicted_fluxes m q walls = values_of (predicted_at m q walls) (length walls)

-- ---- the entry

-- the lent fields
pub record FlowFields : Type 0 where
  pub velocity : Field
  pub pressure : Field
  pub responses : Field
  pub walls : Field

abbrev pub flow_fields : Field → Field → Field → Field → FlowFields
flow_fields v p r w = record { velocity = v; pressure = p; responses = r; walls = w }

abbrev pub flow_fields_lent : ℕ → Slice Float → ℕ → Slice Float → ℕ → Slice Float → ℕ → Slice Float → FlowFields
flow_fields_lent a v b p c r d w = flow_fields (field_lent a v) (field_lent b p) (field_lent c r) (field_lent d w)

-- the flow whose gradient is that of the pressure, by the stencil
abbrev pub flow_of : Counts → ℕ → Slices → FlowFields → Flow
flow_of n records s l =
    flow l.velocity.values l.pressure.values (gradients s records l.pressure.values n.cells) l.responses.values

-- the lengths of the fields
pub record Sizes : Type 0 where
  pub velocity : ℕ
  pub pressure : ℕ
  pub responses : ℕ
  pub walls : ℕ

abbrev pub sizes : ℕ → ℕ → ℕ → ℕ → Sizes
sizes v p r w = record { velocity = v; pressure = p; responses = r; walls = w }

abbrev pub sizes_of : FlowFields → Sizes
sizes_of l = sizes (length l.velocity.values) (length l.pressure.values) (length l.responses.values) (length l.walls.values)

-- 2 of the fields and of the two outputs, which have so many numbers
abbrev pub flow_sizes : Counts → Sizes → ℕ → ℕ → List Bool
flow_sizes n z slopes outs =
    eqb z.velocity (3 * n.cells)
    ∷ eqb z.pressure n.cells
    ∷ eqb z.responses n.cells
    ∷ eqb z.walls n.faces
    ∷ eqb slopes (3 * n.cells)
    ∷ eqb outs n.faces
    ∷ []

abbrev pub flow_sized : Counts → Sizes → ℕ → ℕ → Bool
flow_sized n z slopes outs = every_of (flow_sizes n z slopes outs)

-- 3 of the stencil and of the fields
abbrev pub flow_numbers : Counts → ℕ → FlowFields → List Bool
flow_numbers n stencil l =
    eqb stencil n.mesh
    ∷ eqb l.velocity.number n.mesh
    ∷ eqb l.pressure.number n.mesh
    ∷ eqb l.responses.number n.mesh
    ∷ eqb l.walls.number n.mesh
    ∷ []

-- those of shape, and those of a grid with a stencil's equations; `stencil` is the mesh number of the stencil
unfoldable pub prediction_checks : Counts → Grid → ℕ → ℕ → Slices → FlowFields → ℕ → ℕ → Answer
prediction_checks n m stencil records s l slopes outs =
    first_of
    (pass BadSize (sizes_ok n && leb records largest_count)
    ∷ pass WrongLength (grid_sized n m && stencil_sized n.cells records (lengths_of s) && flow_sized n (sizes_of l) slopes outs)
    ∷ pass OtherMesh (every_of (flow_numbers n stencil l))
    ∷ grid_with_equations n.cells m.adjacency m.geometry m.places s.equations s.starts
    ∷ [])

-- the answer, and what the two outputs hold after the call: untouched where a check refuses, +0.0 where arithmetic does
pub record PredictionCall (n : Counts) (m : Grid) (stencil records : ℕ) (s : Slices) (l : FlowFields)
    (oldSlopes old : List Float) (r : Answer) (slopes new : List Float) : Type 0 where
  pub answer :
      r ≡ or_else (prediction_checks n m stencil records s l (length oldSlopes) (length old)) (prediction_answer m (flow_of n records s l) l.walls.values)
  pub gradient :
      slopes ≡ if_refused (prediction_checks n m stencil records s l (length oldSlopes) (length old)) oldSlopes
      (handed_out r (3 * n.cells) (gradients s records l.pressure.values n.cells))
  pub out :
      new ≡ if_refused (prediction_checks n m stencil records s l (length oldSlopes) (length old)) old
      (handed_out r n.faces (predicted_fluxes m (flow_of n records s l) l.walls.values))
