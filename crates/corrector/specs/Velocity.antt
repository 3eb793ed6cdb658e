-- The corrected velocity of every cell. Definitions only.
use Rattle.refusal.specs.declared.Reason.TheVariants.{BadSize, WrongLength, OtherMesh, BadDiagonal}
use Rattle.std.specs.Prelude.{◌≡◌, List, [], ◌∷◌, Bool, not, ◌&&◌, ℕ, ◌*◌, eqb, length, get_or, Float}
use Rattle.std.specs.Float.{nan}
use Rattle.mesh.specs.Answers.{pass, at, first_of, or_else, Answer}
use Rattle.mesh.specs.Checks.{sizes_ok}
use Rattle.mesh.specs.Pass.{handed_out, if_refused}
use Rattle.vector.specs.Vector.{vectors_of, vector_at}
use Rattle.chain.specs.Search.{every_of, lowest_where}
use Rattle.mesh.specs.declared.Counts.{Counts}
use Rattle.vector.specs.declared.Vec3.{Vec3}
use Rattle.coupling.specs.Cell.{corrected_velocity, stands}
use Rattle.coupling.specs.Grid.{Field}

unfoldable pub corrected_at : List Float → List Float → List Float → ℕ → Vec3
corrected_at velocity responses gradient c = corrected_velocity (vector_at velocity (3 * c)) (get_or responses c nan) (vector_at gradient (3 * c))

-- whether the cell c is refused, as BadDiagonal
unfoldable pub fails_at : List Float → List Float → List Float → ℕ → Bool
fails_at velocity responses gradient c = not (stands (get_or responses c nan) (corrected_at velocity responses gradient c))

abbrev pub velocity_answer : List Float → List Float → List Float → Answer
velocity_answer velocity responses gradient = at BadDiagonal (lowest_where (fails_at velocity responses gradient) (length responses))

abbrev pub corrected_velocities : List Float → List Float → List Float → List Float
corrected_velocities velocity responses gradient = vectors_of (corrected_at velocity responses gradient) (length responses)

-- WrongLength, of the fields and of the output, which has so many numbers
abbrev pub velocity_sizes : Counts → Field → Field → Field → ℕ → List Bool
velocity_sizes n velocity responses gradient outs =
    eqb (length velocity.values) (3 * n.cells)
    ∷ eqb (length responses.values) n.cells
    ∷ eqb (length gradient.values) (3 * n.cells)
    ∷ eqb outs (3 * n.cells)
    ∷ []

-- BadSize, WrongLength and OtherMesh, of what it is lent
unfoldable pub velocity_checks : Counts → Field → Field → Field → ℕ → Answer
velocity_checks n velocity responses gradient outs =
    first_of
    (pass BadSize (sizes_ok n)
    ∷ pass WrongLength (every_of (velocity_sizes n velocity responses gradient outs))
    ∷ pass OtherMesh (eqb velocity.number n.mesh && eqb responses.number n.mesh && eqb gradient.number n.mesh)
    ∷ [])

-- the answer, and what the output holds after the call: untouched where a check refuses, +0.0 where arithmetic does
pub record VelocityCall (n : Counts) (velocity responses gradient : Field) (old : List Float) (r : Answer) (new : List Float) : Type 0 where
  pub answer :
      let checks = velocity_checks n velocity responses gradient (length old) in
      r ≡ or_else checks (velocity_answer velocity.values responses.values gradient.values)
  pub out :
      let checks = velocity_checks n velocity responses gradient (length old) in
      let new_velocity = corrected_velocities velocity.values responses.values gradient.values in
      new ≡ if_refused checks old (handed_out r (length old) new_velocity)
