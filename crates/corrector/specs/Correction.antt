-- The corrected flux of every face. Definitions only.
use Rattle.refusal.specs.declared.Reason.TheVariants.{NoCondition}
use Rattle.mesh.specs.Answers.{Answer, Outcome}
use Rattle.std.specs.Prelude.{◌≡◌, List, cond, ℕ, ◌-◌, ◌*◌, ◌<◌, ◌≤◌, eqb, length, get_or, Float, Ok, Err}
use Rattle.std.specs.Float.{nan}
use Rattle.mesh.specs.Facts.{CellsOf}
use Rattle.mesh.specs.Pass.{first_refusal, values_of}
use Rattle.mesh.specs.Records.{owner_at, neighbour_at, peer_at, condition_at}
use Rattle.mesh.specs.declared.Condition.{Condition}
use Rattle.mesh.specs.declared.Condition.TheVariants.{Absent, Fixed, ZeroGradient}
use Rattle.mesh.specs.declared.lent.Bounds.{Bounds}
use Rattle.mesh.specs.declared.lent.Faces.{Faces}
use Rattle.coupling.specs.Face.{corrected_flux}

-- what a correction reads: the cells, conditions and links of the faces, their predicted fluxes and coefficients, and the cells' pressure corrections
pub record Correcting : Type 0 where
  pub adjacency : List ℕ
  pub codes : List ℕ
  pub values : List Float
  pub predicted : List Float
  pub coefficients : List Float
  pub correction : List Float

abbrev pub correcting : List ℕ → List ℕ → List Float → List Float → List Float → List Float → Correcting
correcting a c v p k x = record { adjacency = a; codes = c; values = v; predicted = p; coefficients = k; correction = x }

-- of the faces and their conditions and links as they are lent
abbrev pub correcting_lent : Faces → Bounds → List Float → List Float → List Float → Correcting
correcting_lent m b p k x = correcting m.adjacency.now b.codes.now b.values.now p k x

-- a one-cell face without a link, by its condition: a zero gradient keeps the flux, whatever its coefficient
unfoldable pub wall_flux : Condition → Float → Float → Float → Outcome
wall_flux Absent p k own = Err NoCondition
wall_flux (Fixed v) p k own = corrected_flux p k v own
wall_flux ZeroGradient p k own = Ok p

-- the face f, of the predicted flux p: by its neighbour, else by its link, else by its condition
abbrev pub corrected_flux_of : List ℕ → List ℕ → List Float → List Float → List Float → ℕ → Float → Outcome
corrected_flux_of adjacency codes values coefficients correction f p =
    let k = get_or coefficients f nan in
    let neighbour = neighbour_at adjacency f in
    let peer = peer_at codes f in
    let correctionIn : ℕ → Float = λ c. get_or correction c nan in
    let own = correctionIn (owner_at adjacency f) in
    cond (eqb neighbour 0)
    (cond (eqb peer 0)
    (wall_flux (condition_at codes values f) p k own)
    (corrected_flux p k (correctionIn (owner_at adjacency (peer - 1))) own))
    (corrected_flux p k (correctionIn (neighbour - 1)) own)

-- of its own predicted flux
unfoldable pub corrected_flux_at : Correcting → ℕ → Outcome
corrected_flux_at m f = corrected_flux_of m.adjacency m.codes m.values m.coefficients m.correction f (get_or m.predicted f nan)

abbrev pub correction_answer : Correcting → Answer
correction_answer m = first_refusal (corrected_flux_at m) (length m.predicted)

abbrev pub corrected_fluxes : Correcting → List Float
corrected_fluxes m = values_of (corrected_flux_at m) (length m.predicted)

-- what the checks establish, of so many faces: a is the adjacency, c are the codes, v the values, k the coefficients, x the corrections
pub record CorrectableFaces (faces : ℕ) (a c : List ℕ) (v k x : List Float) : Type 0 where
  pub adjacency : length a ≡ 2 * faces
  pub codes : length c ≡ 2 * faces
  pub values : length v ≡ 4 * faces
  pub coefficients : length k ≡ faces
  pub sides : (f : ℕ) → f < faces → CellsOf (length x) a f
  pub peers : (f : ℕ) → f < faces → peer_at c f ≤ faces
  pub links : (f : ℕ) → f < faces → (peer_at c f ≡ 0 → ⊥) → neighbour_at a f ≡ 0

-- there are as many as predicted fluxes
abbrev pub Correctable : Correcting → Type 0
Correctable m = CorrectableFaces (length m.predicted) m.adjacency m.codes m.values m.coefficients m.correction
