-- The coefficient of every face with two cells. Definitions only.
use Rattle.refusal.specs.declared.Reason.TheVariants.{BadSize, WrongLength, OtherMesh}
use Rattle.std.specs.Prelude.{◌≡◌, List, [], ◌∷◌, ◌&&◌, cond, ℕ, eqb, length, Float, Ok}
use Rattle.binary64.specs.Numbers.{zero64}
use Rattle.mesh.specs.Answers.{pass, first_of, or_else, Answer, Outcome}
use Rattle.mesh.specs.Checks.{sizes_ok}
use Rattle.mesh.specs.Mesh.{grid_sides}
use Rattle.mesh.specs.Pass.{first_refusal, values_of, handed_out, if_refused}
use Rattle.mesh.specs.Records.{neighbour_at}
use Rattle.mesh.specs.declared.Counts.{Counts}
use Rattle.coupling.specs.Face.{distances, internal_coefficient}
use Rattle.coupling.specs.Grid.{Grid, Field, other_cell, span, pair_at, grid_sized}

-- +0.0 where the face has one cell
unfoldable pub internal_at : Grid → List Float → ℕ → Outcome
internal_at m responses f =
    cond (eqb (neighbour_at m.adjacency f) 0) (Ok zero64)
    (internal_coefficient (span m f) (distances (span m f)) (pair_at m responses f (other_cell m f)))

abbrev pub coefficient_answer : Grid → List Float → ℕ → Answer
coefficient_answer m responses faces = first_refusal (internal_at m responses) faces

abbrev pub coefficients : Grid → List Float → ℕ → List Float
coefficients m responses faces = values_of (internal_at m responses) faces

-- those of shape, and those of a grid; `outs` is the length of the output
unfoldable pub coefficient_checks : Counts → Grid → Field → ℕ → Answer
coefficient_checks n m responses outs =
    first_of
    (pass BadSize (sizes_ok n)
    ∷ pass WrongLength (grid_sized n m && eqb (length responses.values) n.cells && eqb outs n.faces)
    ∷ pass OtherMesh (eqb responses.number n.mesh)
    ∷ grid_sides n.cells m.adjacency m.geometry m.places
    ∷ [])

-- the answer, and what the output holds after the call: untouched where a check refuses, +0.0 where arithmetic does
pub record CoefficientCall (n : Counts) (m : Grid) (responses : Field) (old : List Float) (r : Answer) (new : List Float) : Type 0 where
  pub answer : r ≡ or_else (coefficient_checks n m responses (length old)) (coefficient_answer m responses.values n.faces)
  pub out : new ≡ if_refused (coefficient_checks n m responses (length old)) old (handed_out r n.faces (coefficients m responses.values n.faces))
