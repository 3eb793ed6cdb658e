-- The outflow of each cell: a face's flux is added to its owner's and taken from its neighbour's, face by face from +0.0;
-- and the terms of a cell. Definitions only.
use Rattle.refusal.specs.declared.Reason.TheVariants.{BadSize, WrongLength, OtherMesh}
use Rattle.std.specs.Prelude.{◌≡◌, List, [], ◌∷◌, ◌++◌, Bool, ◌&&◌, cond, ℕ, zero, suc, ◌*◌, ◌-◌, ◌<◌, eqb, length, get_or, set, replicate, Float}
use Rattle.std.specs.Float.{nan, binary64}
use Rattle.std.specs.Float.Ieee.{neg}
use Rattle.binary64.specs.Numbers.{zero64, ◌⊕◌, ◌⊖◌}
use Rattle.binary64.specs.Units.{total}
use Rattle.mesh.specs.Answers.{pass, first_of, Answer, accepted}
use Rattle.mesh.specs.Checks.{sizes_ok}
use Rattle.mesh.specs.Mesh.{sides}
use Rattle.mesh.specs.Facts.{CellsOf}
use Rattle.mesh.specs.Pass.{if_refused}
use Rattle.mesh.specs.Records.{owner_at, neighbour_at}
use Rattle.mesh.specs.declared.Counts.{Counts}

-- the faces as a sum over them reads them: of the face f its owner, its neighbour + 1 (0 for none), and its flux
pub record Faces : Type 0 where
  pub owner : ℕ → ℕ
  pub neighbour : ℕ → ℕ
  pub flux : ℕ → Float

abbrev pub flux_at : List Float → ℕ → Float
flux_at flux f = get_or flux f nan

abbrev pub faces_of : List ℕ → List Float → Faces
faces_of adjacency flux = record { owner = owner_at adjacency; neighbour = neighbour_at adjacency; flux = flux_at flux }

-- ---- the outflows as they are summed, rounded at each step

abbrev pub add_at : List Float → ℕ → Float → List Float
add_at l i v = set l i (get_or l i nan ⊕ v)

abbrev pub take_at : List Float → ℕ → Float → List Float
take_at l i v = set l i (get_or l i nan ⊖ v)

unfoldable pub scatter_face : Faces → ℕ → List Float → List Float
scatter_face m f l =
    let k = add_at l (m.owner f) (m.flux f) in
    cond (eqb (m.neighbour f) 0) k (take_at k (m.neighbour f - 1) (m.flux f))

-- the faces below n in their order, from l
unfoldable pub scatter : Faces → List Float → ℕ → List Float
scatter m l zero = l
scatter m l (suc n) = scatter_face m n (scatter m l n)

unfoldable pub outflows : ℕ → List ℕ → List Float → List Float
outflows cells adjacency flux = scatter (faces_of adjacency flux) (replicate cells zero64) (length flux)

-- ---- the terms of a cell

-- x where the test holds, else nothing
abbrev pub only : Bool → Float → List Float
only b x = cond b (x ∷ []) []

-- what the faces below n give, in their order
unfoldable pub up_to : (ℕ → List Float) → ℕ → List Float
up_to g zero = []
up_to g (suc n) = up_to g n ++ g n

-- what the face f gives the cell c: its flux where c is the owner, its flux negated where c is the neighbour
unfoldable pub face_terms : Faces → ℕ → ℕ → List Float
face_terms m c f = only (eqb (m.owner f) c) (m.flux f) ++ only (eqb (m.neighbour f) (suc c)) (neg (m.flux f))

abbrev pub terms : Faces → ℕ → ℕ → List Float
terms m n c = up_to (face_terms m c) n

-- the law of the outflow: of each cell it is the sum of that cell's terms, in face order from +0.0, rounded at each step
abbrev pub SumsItsTerms : ℕ → List ℕ → List Float → List Float → Type 0
SumsItsTerms cells adjacency flux outflow =
    (c : ℕ) → c < cells → get_or outflow c nan ≡ total binary64 zero64 (terms (faces_of adjacency flux) (length flux) c)

-- ---- the entry

-- the checks of shape, and those of the adjacency
unfoldable pub outflow_checks : Counts → List ℕ → ℕ → List Float → ℕ → Answer
outflow_checks n adjacency number flux outs =
    first_of
    (pass BadSize (sizes_ok n)
    ∷ pass WrongLength (eqb (length adjacency) (2 * n.faces) && eqb (length flux) n.faces && eqb outs n.cells)
    ∷ pass OtherMesh (eqb number n.mesh)
    ∷ sides n.cells adjacency
    ∷ [])

-- the answer, and what the output holds after the call: untouched where a check refuses
pub record OutflowCall (n : Counts) (adjacency : List ℕ) (number : ℕ) (flux old : List Float) (r : Answer) (new : List Float) : Type 0 where
  pub answer : r ≡ outflow_checks n adjacency number flux (length old)
  pub out : new ≡ if_refused r old (outflows n.cells adjacency flux)

-- what an accepted call leaves
abbrev pub Scattered : Answer → ℕ → List ℕ → List Float → List Float → Type 0
Scattered r cells adjacency flux outflow = r ≡ accepted → SumsItsTerms cells adjacency flux outflow

-- what the checks establish
pub record Flows (cells : ℕ) (adjacency : List ℕ) (flux : List Float) : Type 0 where
  pub size : length adjacency ≡ 2 * length flux
  pub faces : (f : ℕ) → f < length flux → CellsOf cells adjacency f
