-- The whole step, from the parts' definitions: stencil, predicted flux, coefficients with boundary, that flux at linked faces, correction, outflow, metrics. Definitions only.
use Rattle.refusal.specs.declared.Reason.TheVariants.{BadCoefficient}
use Rattle.std.specs.Prelude.{◌≡◌, List, [], ◌∷◌, Bool, not, ℕ, ◌*◌, ◌≤◌, length, get_or, Float, Option, None, Some}
use Rattle.std.specs.Float.{nan}
use Rattle.binary64.specs.Numbers.{is_finite}
use Rattle.mesh.specs.Answers.{first_of, Answer, accepted, refused}
use Rattle.mesh.specs.Checks.{largest_count}
use Rattle.mesh.specs.Mesh.{Mesh, Conditions, Good, bounds_of}
use Rattle.chain.specs.Search.{lowest_where}
use Rattle.numerics.specs.Slices.{Slices}
use Rattle.stencil.specs.Lent.{lent_of}
use Rattle.numerics.specs.Gradient.{gradients}
use Rattle.numerics.specs.Outflow.{outflows}
use Rattle.stencil.specs.Stencil.{stencil_answer, stencil_slices}
use Rattle.predictor.specs.Boundary.{boundary_answer, boundary_coefficients}
use Rattle.linked.specs.Linked.{Links, links, linked_answer, linked_fluxes}
use Rattle.corrector.specs.Correction.{Correcting, correcting, correction_answer, corrected_fluxes}
use Rattle.coupling.specs.Grid.{Grid, grid, Field}
use Rattle.corrector.specs.Metrics.{metrics_of, metrics_answer}
use Rattle.predictor.specs.Prediction.{Flow, flow, prediction_answer, predicted_fluxes}

-- what a step is lent: a mesh, one set of conditions and links, room for so many equations, and the fields
pub record Inputs : Type 0 where
  pub mesh : Mesh
  pub conditions : Conditions
  pub records : ℕ
  pub velocity : Field
  pub pressure : Field
  pub responses : Field
  pub walls : Field
  pub correction : Field

abbrev pub inputs : Mesh → Conditions → ℕ → Field → Field → Field → Field → Field → Inputs
inputs m k n v p r w x =
    record { mesh = m; conditions = k; records = n; velocity = v; pressure = p; responses = r; walls = w; correction = x }

abbrev pub grid_of : Inputs → Grid
grid_of d = grid d.mesh.adjacency d.mesh.geometry d.mesh.places

-- ---- what each part hands to the next

abbrev pub stencil_of : Inputs → Slices
stencil_of d = stencil_slices (lent_of d.mesh d.conditions) d.records

abbrev pub gradient_of : Inputs → List Float
gradient_of d = gradients (stencil_of d) d.records d.pressure.values d.mesh.counts.cells

abbrev pub flow_of : Inputs → Flow
flow_of d = flow d.velocity.values d.pressure.values (gradient_of d) d.responses.values

-- with the wall flux at every face with one cell
abbrev pub unlinked_of : Inputs → List Float
unlinked_of d = predicted_fluxes (grid_of d) (flow_of d) d.walls.values

abbrev pub coefficients_of : Inputs → List Float
coefficients_of d = boundary_coefficients (grid_of d) (bounds_of d.conditions) d.responses.values d.mesh.counts.faces

abbrev pub links_of : Inputs → Links
links_of d = links (grid_of d) (bounds_of d.conditions) (flow_of d) (coefficients_of d)

-- and linked faces predicted
abbrev pub predicted_of : Inputs → List Float
predicted_of d = linked_fluxes (links_of d) (unlinked_of d)

abbrev pub correcting_of : Inputs → Correcting
correcting_of d =
    correcting d.mesh.adjacency d.conditions.codes d.conditions.values (predicted_of d) (coefficients_of d) d.correction.values

abbrev pub fluxes_of : Inputs → List Float
fluxes_of d = corrected_fluxes (correcting_of d)

abbrev pub outflows_of : Inputs → List Float
outflows_of d = outflows d.mesh.counts.cells d.mesh.adjacency (fluxes_of d)

-- ---- the answer

-- BadCoefficient with index 0 where an outflow is not finite
unfoldable pub spilled : Option ℕ → Answer
spilled None = accepted
spilled (Some c) = refused BadCoefficient 0

abbrev pub endless : List Float → ℕ → Bool
endless outflow c = not (is_finite (get_or outflow c nan))

abbrev pub finite_answer : List Float → Answer
finite_answer outflow = spilled (lowest_where (endless outflow) (length outflow))

-- the first refusal of the parts, in their order
unfoldable pub work_answer : Inputs → Answer
work_answer d =
    first_of
    (stencil_answer (lent_of d.mesh d.conditions) d.records
    ∷ prediction_answer (grid_of d) (flow_of d) d.walls.values
    ∷ boundary_answer (grid_of d) (bounds_of d.conditions) d.responses.values d.mesh.counts.faces
    ∷ linked_answer (links_of d) (unlinked_of d)
    ∷ correction_answer (correcting_of d)
    ∷ metrics_answer (metrics_of d.mesh.places (outflows_of d))
    ∷ finite_answer (outflows_of d)
    ∷ [])

-- what the checks establish
pub record Lendable (d : Inputs) : Type 0 where
  pub good : Good d.mesh d.conditions
  pub few : d.records ≤ largest_count
  pub velocity : length d.velocity.values ≡ 3 * d.mesh.counts.cells
  pub pressure : length d.pressure.values ≡ d.mesh.counts.cells
  pub responses : length d.responses.values ≡ d.mesh.counts.cells
  pub walls : length d.walls.values ≡ d.mesh.counts.faces
  pub correction : length d.correction.values ≡ d.mesh.counts.cells
