-- Two sequences of refusals in one pass over the faces: every refusal of the first comes before any of the second. Definitions only.
use Rattle.std.specs.Prelude.{◌≡◌, List, ℕ, set, Float, Result, Ok, Err}
use Rattle.refusal.specs.declared.Reason.{Reason}
use Rattle.mesh.specs.Answers.{or_else, Answer, Outcome, accepted}
use Rattle.mesh.specs.Pass.{first_refusal}

-- the first refusal of g, else the first of h
abbrev pub two_refusals : (ℕ → Outcome) → (ℕ → Outcome) → ℕ → Answer
two_refusals g h n = or_else (first_refusal g n) (first_refusal h n)

-- what a face comes to: refused in the first, or what the second makes of it
abbrev pub Stage : Type 0
Stage = Result Outcome Reason

abbrev pub late_of : Outcome → Stage
late_of b = Ok b

unfoldable pub staged : Outcome → Outcome → Stage
staged (Err k) b = Err k
staged (Ok v) b = late_of b

-- a pass that answers a, and leaves l where it accepts
abbrev pub Passes : Answer → List Float → Answer → List Float → Type 0
Passes a l r new = (r ≡ a) × (r ≡ accepted → new ≡ l)

-- the list with the number of item i, where the item has one
unfoldable pub stored_at : List Float → ℕ → Outcome → List Float
stored_at l i (Ok v) = set l i v
stored_at l i (Err k) = l

-- a pass over n items that fills a list with l, where the list has room for all of them
abbrev pub Fills : ℕ → ℕ → List Float → Answer → List Float → Type 0
Fills room n l r new = room ≡ n → r ≡ accepted → new ≡ l
