-- The predicted flux of linked faces, with the coefficients of all faces. Definitions only.
use Rattle.std.specs.Prelude.{◌≡◌, List, cond, ℕ, suc, ◌-◌, ◌<◌, eqb, ltb, length, get_or, Float, Ok, Err}
use Rattle.std.specs.Float.{nan}
use Rattle.std.specs.Float.Ieee.{neg}
use Rattle.mesh.specs.Answers.{Answer, Outcome}
use Rattle.mesh.specs.Mesh.{Bounds}
use Rattle.mesh.specs.Pass.{first_refusal, value_of, values_of}
use Rattle.mesh.specs.Records.{peer_at}
use Rattle.coupling.specs.Face.{distances, predicted_flux}
use Rattle.coupling.specs.Grid.{Grid, own_cell, peer_cell, linked_span}
use Rattle.predictor.specs.Prediction.{Flow, side_at}

-- what the flux of a linked face is predicted from: a mesh with its links, the cells' fields, and the coefficients with boundary
pub record Links : Type 0 where
  pub grid : Grid
  pub bounds : Bounds
  pub flow : Flow
  pub coefficients : List Float

abbrev pub links : Grid → Bounds → Flow → List Float → Links
links m k q c = record { grid = m; bounds = k; flow = q; coefficients = c }

-- the face f by itself: as between two cells, its owner and the peer's owner as it is seen from this side, with the face's own coefficient
unfoldable pub own_flux : Links → ℕ → Outcome
own_flux d f =
    let s = linked_span d.grid d.bounds f in
    let here = side_at d.flow (own_cell d.grid f) in
    let beyond = side_at d.flow (peer_cell d.grid d.bounds f) in
    predicted_flux s (distances s) (get_or d.coefficients f nan) here beyond

-- v, where the face's own flux is not refused
unfoldable pub if_own : Outcome → Float → Outcome
if_own (Ok own) v = Ok v
if_own (Err k) v = Err k

-- A linked face is refused where its own flux is. Else the lower face of a pair has its own, and the higher the lower's negated. Any other face keeps its flux in p.
unfoldable pub linked_at : Links → List Float → ℕ → Outcome
linked_at d p f =
    let peer = peer_at d.bounds.codes f in
    let lower = value_of (own_flux d (peer - 1)) in
    let own = value_of (own_flux d f) in
    cond (eqb peer 0) (Ok (get_or p f nan)) (if_own (own_flux d f) (cond (ltb (peer - 1) f) (neg lower) own))

abbrev pub linked_answer : Links → List Float → Answer
linked_answer d p = first_refusal (linked_at d p) (length p)

abbrev pub linked_fluxes : Links → List Float → List Float
linked_fluxes d p = values_of (linked_at d p) (length p)

-- every link of so many faces is one of a pair
abbrev pub Paired : List ℕ → ℕ → Type 0
Paired codes faces = (f g : ℕ) → f < faces → peer_at codes f ≡ suc g → peer_at codes g ≡ suc f
