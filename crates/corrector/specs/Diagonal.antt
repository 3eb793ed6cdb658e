-- The inverse of the momentum diagonal, cell by cell. Definitions only.
use Rattle.refusal.specs.declared.Reason.TheVariants.{BadSize, WrongLength}
use Rattle.std.specs.Prelude.{◌≡◌, List, [], ◌∷◌, ◌&&◌, ℕ, eqb, length, get_or, Float}
use Rattle.std.specs.Float.{nan}
use Rattle.mesh.specs.Answers.{pass, first_of, or_else, Answer, Outcome}
use Rattle.mesh.specs.Checks.{sizes_ok}
use Rattle.mesh.specs.Pass.{first_refusal, values_of, handed_out, if_refused}
use Rattle.mesh.specs.declared.Counts.{Counts}
use Rattle.coupling.specs.Cell.{inverse_diagonal}

unfoldable pub inverse_at : List Float → ℕ → Outcome
inverse_at diagonal c = inverse_diagonal (get_or diagonal c nan)

abbrev pub inverse_answer : List Float → Answer
inverse_answer diagonal = first_refusal (inverse_at diagonal) (length diagonal)

abbrev pub inverses : List Float → List Float
inverses diagonal = values_of (inverse_at diagonal) (length diagonal)

-- BadSize and WrongLength, of what it is lent; `outs` is the length of the output
unfoldable pub diagonal_checks : Counts → List Float → ℕ → Answer
diagonal_checks n diagonal outs =
    first_of (pass BadSize (sizes_ok n) ∷ pass WrongLength (eqb (length diagonal) n.cells && eqb outs n.cells) ∷ [])

-- the answer, and what the output holds after the call: untouched where a check refuses, +0.0 where arithmetic does
pub record DiagonalCall (n : Counts) (diagonal old : List Float) (r : Answer) (new : List Float) : Type 0 where
  pub answer : r ≡ or_else (diagonal_checks n diagonal (length old)) (inverse_answer diagonal)
  pub out : new ≡ if_refused (diagonal_checks n diagonal (length old)) old (handed_out r n.cells (inverses diagonal))
