-- The step as one call: its checks, its answer, and what its ten outputs hold. Definitions only.
use Rattle.refusal.specs.declared.Reason.TheVariants.{BadSize, WrongLength, OtherMesh}
use Rattle.std.specs.Prelude.{◌≡◌, List, [], ◌∷◌, Bool, ◌&&◌, ℕ, ◌*◌, T, eqb, leb, length, get_or, replicate, Float}
use Rattle.std.specs.Float.{nan, binary64}
use Rattle.std.specs.Float.Ieee.{fits}
use Rattle.binary64.specs.Numbers.{zero64}
use Rattle.mesh.specs.Answers.{pass, first_of, or_else, Answer, accepted}
use Rattle.mesh.specs.Checks.{largest_count, sizes_ok}
use Rattle.mesh.specs.Mesh.{mesh_sized, conditions_sized, whole_mesh}
use Rattle.mesh.specs.Pass.{if_refused}
use Rattle.chain.specs.Search.{every_of}
use Rattle.mesh.specs.declared.Counts.{Counts}
use Rattle.numerics.specs.Slices.{Slices, slices, lengths_of, stencil_sized}
use Rattle.corrector.specs.Metrics.{metrics_of, metrics_numbers}
use Rattle.scheme.specs.Step.{Inputs, stencil_of, gradient_of, predicted_of, coefficients_of, fluxes_of, outflows_of, work_answer}

-- the outputs
pub record Handed : Type 0 where
  pub stencil : Slices
  pub gradient : List Float
  pub predicted : List Float
  pub coefficients : List Float
  pub flux : List Float
  pub outflow : List Float
  pub metrics : List Float

abbrev pub handed : Slices → List Float → List Float → List Float → List Float → List Float → List Float → Handed
handed s g p k f o m = record { stencil = s; gradient = g; predicted = p; coefficients = k; flux = f; outflow = o; metrics = m }

-- what holds where the answer accepts
abbrev pub IfAccepted : Answer → Type 0 → Type 0
IfAccepted r P = r ≡ accepted → P

-- the numbers of a slice, as its type says
abbrev pub Binary64 : List Float → Type 0
Binary64 l = (i : ℕ) → T (fits binary64 (get_or l i nan))

-- ---- the checks

-- 2 of the fields, which have so many numbers
abbrev pub field_sizes : Counts → ℕ → ℕ → ℕ → ℕ → ℕ → List Bool
field_sizes n velocities pressures responses walls corrections =
    eqb velocities (3 * n.cells) ∷ eqb pressures n.cells ∷ eqb responses n.cells ∷ eqb walls n.faces ∷ eqb corrections n.cells ∷ []

abbrev pub fields_sized : Counts → ℕ → ℕ → ℕ → ℕ → ℕ → Bool
fields_sized n velocities pressures responses walls corrections =
    every_of (field_sizes n velocities pressures responses walls corrections)

-- 2 of the outputs; a stencil has room for so many records
abbrev pub output_sizes : Counts → ℕ → Handed → List Bool
output_sizes n records old =
    stencil_sized n.cells records (lengths_of old.stencil)
    ∷ eqb (length old.gradient) (3 * n.cells)
    ∷ eqb (length old.predicted) n.faces
    ∷ eqb (length old.coefficients) n.faces
    ∷ eqb (length old.flux) n.faces
    ∷ eqb (length old.outflow) n.cells
    ∷ eqb (length old.metrics) 2
    ∷ []

abbrev pub outputs_sized : Counts → ℕ → Handed → Bool
outputs_sized n records old = every_of (output_sizes n records old)

-- 3 of the conditions and the fields
abbrev pub step_numbers : Inputs → List Bool
step_numbers d =
    eqb d.conditions.number d.mesh.counts.mesh
    ∷ eqb d.velocity.number d.mesh.counts.mesh
    ∷ eqb d.pressure.number d.mesh.counts.mesh
    ∷ eqb d.responses.number d.mesh.counts.mesh
    ∷ eqb d.walls.number d.mesh.counts.mesh
    ∷ eqb d.correction.number d.mesh.counts.mesh
    ∷ []

-- those of shape and of the mesh, of all that is lent
abbrev pub step_sized : Inputs → Handed → Bool
step_sized d old =
    let n = d.mesh.counts in
    mesh_sized d.mesh && conditions_sized n.faces d.conditions.codes d.conditions.values
    && fields_sized n (length d.velocity.values) (length d.pressure.values) (length d.responses.values) (length d.walls.values) (length d.correction.values)
    && outputs_sized n d.records old

unfoldable pub step_checks : Inputs → Handed → Answer
step_checks d old =
    first_of
    (pass BadSize (sizes_ok d.mesh.counts && leb d.records largest_count)
    ∷ pass WrongLength (step_sized d old)
    ∷ pass OtherMesh (every_of (step_numbers d))
    ∷ whole_mesh d.mesh d.conditions.codes
    ∷ [])

-- ---- the outputs

-- of an accepted step
abbrev pub results : Inputs → Handed
results d =
    handed (stencil_of d) (gradient_of d) (predicted_of d) (coefficients_of d) (fluxes_of d) (outflows_of d)
    (metrics_numbers (metrics_of d.mesh.places (outflows_of d)))

-- 0 and +0.0 throughout, as long as the outputs are
abbrev pub zeros : List Float → List Float
zeros l = replicate (length l) zero64

abbrev pub cleared_slices : Slices → Slices
cleared_slices s = slices (replicate (length s.starts) 0) (replicate (length s.equations) 0) (zeros s.weights) (zeros s.inverses)

abbrev pub cleared : Handed → Handed
cleared old =
    handed (cleared_slices old.stencil) (zeros old.gradient) (zeros old.predicted) (zeros old.coefficients) (zeros old.flux) (zeros old.outflow)
    (zeros old.metrics)

-- the answer, and what the outputs hold after the call: untouched where a check refuses, cleared where arithmetic does
pub record StepCall (d : Inputs) (old : Handed) (r : Answer) (new : Handed) : Type 0 where
  pub answer : r ≡ or_else (step_checks d old) (work_answer d)
  pub outputs : new ≡ if_refused (step_checks d old) old (if_refused r (cleared old) (results d))

-- what the checks establish of the outputs
pub record OutputsFit (n : Counts) (records : ℕ) (old : Handed) : Type 0 where
  pub starts : length old.stencil.starts ≡ n.cells
  pub equations : length old.stencil.equations ≡ 2 * records
  pub weights : length old.stencil.weights ≡ 4 * records
  pub inverses : length old.stencil.inverses ≡ 9 * n.cells
  pub gradient : length old.gradient ≡ 3 * n.cells
  pub predicted : length old.predicted ≡ n.faces
  pub coefficients : length old.coefficients ≡ n.faces
  pub flux : length old.flux ≡ n.faces
  pub outflow : length old.outflow ≡ n.cells
  pub metrics : length old.metrics ≡ 2
