-- An answer as C has it: a number, and an index left behind. Definitions only.
use Rattle.std.specs.Prelude.{◌≡◌, ℕ}
use Rattle.mesh.specs.Answers.{Answer, answer_number, answer_index}

-- the number and the index are those of the answer that the entry gives
pub record Told (Gives : Answer → Type 0) (number index : ℕ) : Type 0 where
  pub answer : Answer
  pub gives : Gives answer
  pub is : number ≡ answer_number answer
  pub at : index ≡ answer_index answer
