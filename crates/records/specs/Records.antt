-- Numbers as records of three. Definitions only.
use Rattle.refusal.specs.declared.Reason.TheVariants.{WrongLength}
use Rattle.mesh.specs.Answers.{pass, Answer}
use Rattle.std.specs.Prelude.{◌≡◌, List, [], ◌∷◌, ◌++◌, ℕ, zero, suc, ◌+◌, ◌*◌, ◌<◌, eqb, length, get_or, Float}
use Rattle.mesh.specs.Pass.{if_refused}
use Rattle.mesh.specs.declared.Counts.{Counts}
use Rattle.numerics.specs.Slices.{Slices}
use Rattle.numerics.specs.Gradient.{gradients, gradient_checks}
use Rattle.vector.specs.Vector.{vectors_of, vector_at, vec, zero3}
use Rattle.vector.specs.declared.Vec3.{Vec3}

-- the numbers of a list three at a time, each three a vector
unfoldable pub vectors : List Float → List Vec3
vectors (x ∷ y ∷ z ∷ l) = vec x y z ∷ vectors l
vectors (x ∷ y ∷ []) = []
vectors (x ∷ []) = []
vectors [] = []

-- h 0, .., h (n - 1)
unfoldable pub records_of : (ℕ → Vec3) → ℕ → List Vec3
records_of h zero = []
records_of h (suc n) = records_of h n ++ (h n ∷ [])

-- two laws: the record i is the vector of the numbers 3i, 3i + 1 and 3i + 2, and the numbers of vectors are those vectors again
abbrev pub Numbered : Type 0
Numbered = (l : List Float) (i : ℕ) → 3 * i + 2 < length l → get_or (vectors l) i zero3 ≡ vector_at l (3 * i)

abbrev pub Regrouped : Type 0
Regrouped = (h : ℕ → Vec3) (n : ℕ) → vectors (vectors_of h n) ≡ records_of h n

-- ---- the entries

-- the answer, and what the output holds after the call: untouched where a check refuses, else the records of the number form
pub record RecordsCall
    (n : Counts)
    (stencil records : ℕ)
    (s : Slices)
    (number : ℕ)
    (field : List Float)
    (old : List Vec3)
    (r : Answer)
    (new : List Vec3) : Type 0 where
  pub answer : r ≡ gradient_checks n stencil records s number field (3 * length old)
  pub out : new ≡ if_refused r old (vectors (gradients s records field n.cells))

-- of any numbers: 2 where they are not three a record
pub record HandedCall (numbers : List Float) (old : List Vec3) (r : Answer) (new : List Vec3) : Type 0 where
  pub answer : r ≡ pass WrongLength (eqb (length numbers) (3 * length old))
  pub out : new ≡ if_refused r old (vectors numbers)
