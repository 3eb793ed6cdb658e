-- The entry that corrects the flux of every face: its checks, its answer, and what its output holds. Definitions only.
use Rattle.refusal.specs.declared.Reason.TheVariants.{BadSize, WrongLength, OtherMesh}
use Rattle.std.specs.Prelude.{◌≡◌, List, [], ◌∷◌, Bool, ℕ, ◌*◌, eqb, length, Float}
use Rattle.mesh.specs.Answers.{pass, first_of, or_else, Answer, accepted}
use Rattle.mesh.specs.Checks.{sizes_ok}
use Rattle.mesh.specs.Lent.{Slice}
use Rattle.mesh.specs.Mesh.{Conditions, conditions_sized, links}
use Rattle.mesh.specs.Pass.{handed_out, if_refused}
use Rattle.chain.specs.Search.{every_of}
use Rattle.mesh.specs.declared.Counts.{Counts}
use Rattle.corrector.specs.Correction.{Correcting, correcting, correction_answer, corrected_fluxes}
use Rattle.coupling.specs.Grid.{Field, field_lent}
use Rattle.corrector.specs.Promise.{Promise, boundary_of}

-- the lent fields
pub record Fields : Type 0 where
  pub predicted : Field
  pub coefficients : Field
  pub correction : Field

abbrev pub fields : Field → Field → Field → Fields
fields p k x = record { predicted = p; coefficients = k; correction = x }

abbrev pub fields_lent : ℕ → Slice Float → ℕ → Slice Float → ℕ → Slice Float → Fields
fields_lent a p b k c x = fields (field_lent a p) (field_lent b k) (field_lent c x)

abbrev pub correcting_by : List ℕ → Conditions → Fields → Correcting
correcting_by adjacency k l =
    correcting adjacency k.codes k.values l.predicted.values l.coefficients.values l.correction.values

-- 2 of the conditions, the adjacency, the fields and the output, which has so many numbers; 3 of the conditions and the fields
abbrev pub correction_sizes : Counts → List ℕ → Conditions → Fields → ℕ → List Bool
correction_sizes n adjacency k l outs =
    conditions_sized n.faces k.codes k.values
    ∷ eqb (length adjacency) (2 * n.faces)
    ∷ eqb (length l.predicted.values) n.faces
    ∷ eqb (length l.coefficients.values) n.faces
    ∷ eqb (length l.correction.values) n.cells
    ∷ eqb outs n.faces
    ∷ []

abbrev pub correction_numbers : Counts → Conditions → Fields → List Bool
correction_numbers n k l =
    eqb k.number n.mesh
    ∷ eqb l.predicted.number n.mesh
    ∷ eqb l.coefficients.number n.mesh
    ∷ eqb l.correction.number n.mesh
    ∷ []

-- those of shape, and those of the adjacency with links
unfoldable pub correction_checks : Counts → List ℕ → Conditions → Fields → ℕ → Answer
correction_checks n adjacency k l outs =
    first_of
    (pass BadSize (sizes_ok n)
    ∷ pass WrongLength (every_of (correction_sizes n adjacency k l outs))
    ∷ pass OtherMesh (every_of (correction_numbers n k l))
    ∷ links n.cells adjacency k.codes
    ∷ [])

-- the answer, and what the output holds after the call: untouched where a check refuses, +0.0 where arithmetic does
pub record CorrectionCall (n : Counts) (adjacency : List ℕ) (k : Conditions) (l : Fields) (old : List Float) (r : Answer) (new : List Float) : Type 0 where
  pub answer : r ≡ or_else (correction_checks n adjacency k l (length old)) (correction_answer (correcting_by adjacency k l))
  pub out :
      new ≡ if_refused (correction_checks n adjacency k l (length old)) old (handed_out r n.faces (corrected_fluxes (correcting_by adjacency k l)))

-- kept and opposite fluxes, of an accepted call
abbrev pub Promised : Answer → List ℕ → Conditions → Fields → List Float → Type 0
Promised r adjacency k l new = r ≡ accepted → Promise (boundary_of (correcting_by adjacency k l)) new
