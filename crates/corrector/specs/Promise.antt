-- What an accepted correction promises of single faces and of linked pairs. Definitions only.
use Rattle.std.specs.Prelude.{◌≡◌, List, ℕ, suc, ◌<◌, length, get_or, Float}
use Rattle.std.specs.Float.{nan}
use Rattle.binary64.specs.Units.{Opposite}
use Rattle.mesh.specs.Records.{neighbour_at, code_at, peer_at}
use Rattle.corrector.specs.Correction.{Correcting}

-- what the promise reads: how many faces there are, and of the face f its neighbour + 1, its peer + 1, its condition's code, its given flux and its coefficient
pub record Boundary : Type 0 where
  pub faces : ℕ
  pub neighbour : ℕ → ℕ
  pub peer : ℕ → ℕ
  pub code : ℕ → ℕ
  pub given : ℕ → Float
  pub coefficient : ℕ → Float

-- the face f has one cell, no link and a zero gradient
abbrev pub Free : Boundary → ℕ → Type 0
Free t f = (t.neighbour f ≡ 0) × (t.peer f ≡ 0) × (t.code f ≡ 2)

-- every such face keeps its given flux
abbrev pub KeepsFree : Boundary → List Float → Type 0
KeepsFree t fluxes = (f : ℕ) → f < t.faces → Free t f → get_or fluxes f nan ≡ t.given f

-- the faces f and g are linked to each other
abbrev pub Linked : Boundary → ℕ → ℕ → Type 0
Linked t f g = (t.peer f ≡ suc g) × (t.peer g ≡ suc f)

-- any two such faces whose given fluxes are opposite and whose coefficients are equal leave with opposite fluxes, a zero's sign aside both times
abbrev pub KeepsOpposite : Boundary → List Float → Type 0
KeepsOpposite t fluxes =
    (f g : ℕ) → f < t.faces → g < t.faces → Linked t f g → Opposite (t.given f) (t.given g) → t.coefficient f ≡ t.coefficient g
    → Opposite (get_or fluxes f nan) (get_or fluxes g nan)

pub record Promise (t : Boundary) (fluxes : List Float) : Type 0 where
  pub free : KeepsFree t fluxes
  pub opposite : KeepsOpposite t fluxes

-- in the correction the given flux is the predicted one, and the coefficient the one lent
abbrev pub boundary_of : Correcting → Boundary
boundary_of m = record {
  faces = length m.predicted;
  neighbour = neighbour_at m.adjacency;
  peer = peer_at m.codes;
  code = code_at m.codes;
  given = λ f. get_or m.predicted f nan;
  coefficient = λ f. get_or m.coefficients f nan;
}
