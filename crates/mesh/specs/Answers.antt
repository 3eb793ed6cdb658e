-- What an answer is in docs/REFUSALS.md: a number, 0 where the call is accepted, and an index. Definitions only.
use Rattle.std.specs.Prelude.{List, [], ◌∷◌, Bool, true, false, ℕ, Float, Option, None, Some, Result, Ok, Err}
use Rattle.refusal.specs.Numbers.{number_of, refusal}
use Rattle.refusal.specs.declared.Reason.{Reason}
use Rattle.refusal.specs.declared.Reason.TheVariants.{BadSize, WrongLength, OtherMesh}
use Rattle.refusal.specs.declared.Refusal.{Refusal}

-- nothing where the call is accepted
abbrev pub Answer : Type 0
Answer = Result (Unit {0}) Refusal

-- what a face or a cell is given: a number, or why it is refused
abbrev pub Outcome : Type 0
Outcome = Result Float Reason

abbrev pub accepted : Answer
accepted = Ok tt

abbrev pub refused : Reason → ℕ → Answer
refused k i = Err (refusal k i)

-- the number and the index of an answer; an accepted call has 0 for both
unfoldable pub answer_number : Answer → ℕ
answer_number (Ok u) = 0
answer_number (Err e) = number_of e.reason

unfoldable pub answer_index : Answer → ℕ
answer_index (Ok u) = 0
answer_index (Err e) = e.index

-- a test that has to pass
unfoldable pub pass : Reason → Bool → Answer
pass k true = accepted
pass k false = refused k 0

-- a search that has to find nothing
unfoldable pub at : Reason → Option ℕ → Answer
at k None = accepted
at k (Some i) = refused k i

-- the first refusal of two answers
unfoldable pub or_else : Answer → Answer → Answer
or_else (Ok u) b = b
or_else (Err e) b = Err e

-- the first refusal of the list, in its order
unfoldable pub first_of : List Answer → Answer
first_of [] = accepted
first_of (a ∷ rest) = or_else a (first_of rest)

-- the checks of shape: of the counts, of the lengths, of the mesh numbers
unfoldable pub shape : Bool → Bool → Bool → Answer
shape counts lengths numbers = first_of (pass BadSize counts ∷ pass WrongLength lengths ∷ pass OtherMesh numbers ∷ [])
