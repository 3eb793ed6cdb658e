-- The gradient of a cell by Gauss: the sum over its faces of area vector times value, over its volume, of any values of the faces; and 12. Definitions only.
use Rattle.refusal.specs.declared.Reason.TheVariants.{BadVolume}
use Rattle.std.specs.Prelude.{List, cond, ℕ, zero, suc, ◌*◌, eqb, replicate, get_or, Float, Option}
use Rattle.std.specs.Float.{nan}
use Rattle.std.specs.Float.Ieee.{le}
use Rattle.binary64.specs.Numbers.{zero64}
use Rattle.vector.specs.Vector.{vector_at, vectors_of, add_vector, negated, scaled, quotient}
use Rattle.vector.specs.declared.Vec3.{Vec3}
use Rattle.chain.specs.Search.{lowest_where}
use Rattle.mesh.specs.Answers.{at, Answer}
use Rattle.mesh.specs.Records.{neighbour_at, face_area, volume_at}
use Rattle.coupling.specs.Grid.{Grid, own_cell, other_cell}

-- the face f with the value v: its area vector times the value is added to its owner, and the negation to its neighbour
unfoldable pub gather_face : Grid → ℕ → Float → List Float → List Float
gather_face m f v l =
    let flow = scaled (face_area m.geometry f) v in
    let k = add_vector l (own_cell m f) flow in
    cond (eqb (neighbour_at m.adjacency f) 0) k (add_vector k (other_cell m f) (negated flow))

-- the faces below n in their order, from +0.0 in each of so many cells; h is the value of each face
unfoldable pub sums : Grid → (ℕ → Float) → ℕ → ℕ → List Float
sums m h cells zero = replicate (3 * cells) zero64
sums m h cells (suc n) = gather_face m n (h n) (sums m h cells n)

-- the gradient of the cell c, from the sums of all
unfoldable pub gradient_at : Grid → List Float → ℕ → Vec3
gradient_at m l c = quotient (vector_at l (3 * c)) (volume_at m.places c)

abbrev pub gauss_gradients : Grid → (ℕ → Float) → ℕ → ℕ → List Float
gauss_gradients m h cells faces = vectors_of (gradient_at m (sums m h cells faces)) cells

-- the values of the faces, where they are lent
abbrev pub face_value : List Float → ℕ → Float
face_value values f = get_or values f nan

-- ---- 12, before any sum: a volume is at most 0, so that a NaN and +inf pass

abbrev pub lowest_bad_volume : List Float → ℕ → Option ℕ
lowest_bad_volume places cells = lowest_where (λ c. le (volume_at places c) zero64) cells

abbrev pub volume_answer : List Float → ℕ → Answer
volume_answer places cells = at BadVolume (lowest_bad_volume places cells)
