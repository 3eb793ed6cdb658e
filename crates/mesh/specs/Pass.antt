-- A pass over faces or cells in order: the first refusal, the list of all values, and what is handed out. Definitions only.
use Rattle.mesh.specs.Answers.{Answer, Outcome, accepted, refused}
use Rattle.std.specs.Prelude.{List, [], ◌∷◌, ◌++◌, ℕ, zero, suc, replicate, Float, Ok, Err}
use Rattle.binary64.specs.Numbers.{zero64}

-- a refusal stays; else that of item n, if it has one
unfoldable pub after : Answer → Outcome → ℕ → Answer
after (Err e) s n = Err e
after (Ok u) (Ok v) n = accepted
after (Ok u) (Err k) n = refused k n

-- the first refusal among the items below n
unfoldable pub first_refusal : (ℕ → Outcome) → ℕ → Answer
first_refusal g zero = accepted
first_refusal g (suc n) = after (first_refusal g n) (g n) n

unfoldable pub value_of : Outcome → Float
value_of (Ok v) = v
value_of (Err k) = zero64

-- h 0, .., h (n - 1)
unfoldable pub list_of : (ℕ → Float) → ℕ → List Float
list_of h zero = []
list_of h (suc n) = list_of h n ++ (h n ∷ [])

abbrev pub values_of : (ℕ → Outcome) → ℕ → List Float
values_of g n = list_of (λ i. value_of (g i)) n

-- an accepted call hands out its list, and one that arithmetic refuses +0.0 throughout
unfoldable pub handed_out : Answer → ℕ → List Float → List Float
handed_out (Ok u) n l = l
handed_out (Err e) n l = replicate n zero64

-- the first where the answer refuses, the second where it accepts
unfoldable pub if_refused : {A : Type 0} → Answer → A → A → A
if_refused (Err e) after_refusal otherwise = after_refusal
if_refused (Ok u) after_refusal otherwise = otherwise
