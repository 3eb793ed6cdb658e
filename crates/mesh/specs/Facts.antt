-- What the checks establish of what is lent, once they pass: every index that a function reads by is in range. Definitions only.
use Rattle.std.specs.Prelude.{◌≡◌, List, ℕ, ◌+◌, ◌-◌, ◌*◌, ◌/◌, ◌≤◌, ◌<◌, length, Float}
use Rattle.chain.specs.Chains.{Chain, head_at, cell_count}
use Rattle.degree.specs.Degree as degree
use Rattle.mesh.specs.Checks.{largest_count}
use Rattle.mesh.specs.Records.{neighbour_at, code_at, peer_at}
use Rattle.mesh.specs.declared.Counts.{Counts}
use Rattle.chain.specs.declared.Form.{Form}

-- by check 1
pub record Small (n : Counts) : Type 0 where
  pub some : 0 < n.cells
  pub cells : n.cells ≤ largest_count
  pub faces : n.faces ≤ largest_count
  pub facings : n.facings ≤ largest_count
  pub borderings : n.borderings ≤ largest_count

-- by check 2, of adjacency, geometry and places
pub record GridSized (n : Counts) (a : List ℕ) (g p : List Float) : Type 0 where
  pub adjacency : length a ≡ 2 * n.faces
  pub geometry : length g ≡ 11 * n.faces
  pub places : length p ≡ 4 * n.cells

-- by check 4: the cells of the face f, and of each face
abbrev pub CellsOf : ℕ → List ℕ → ℕ → Type 0
CellsOf = degree.CellsOf

abbrev pub FacesIn : ℕ → List ℕ → Type 0
FacesIn = degree.FacesIn

-- with 2, of adjacency and places
pub record Placed (n : Counts) (a : List ℕ) (p : List Float) : Type 0 where
  pub adjacency : length a ≡ 2 * n.faces
  pub places : length p ≡ 4 * n.cells
  pub sides : FacesIn n.cells a

abbrev pub CodesIn : List ℕ → Type 0
CodesIn codes = (f : ℕ) → f < length codes / 2 → code_at codes f ≤ 2

-- by check 5: the chain of every cell
abbrev pub ChainsIn : ℕ → List ℕ → Form → List ℕ → Type 0
ChainsIn limit records form heads = (c : ℕ) → c < cell_count form heads → Chain records (length records / 2) limit (head_at form heads c)

-- by check 6: the link of the face f, where it has one
pub record LinkOf (adjacency codes : List ℕ) (f : ℕ) : Type 0 where
  pub one_cell : neighbour_at adjacency f ≡ 0
  pub present : peer_at codes f ≤ length codes / 2
  pub other : peer_at codes f ≡ f + 1 → ⊥
  pub back : peer_at codes (peer_at codes f - 1) ≡ f + 1

abbrev pub LinksIn : List ℕ → List ℕ → Type 0
LinksIn adjacency codes = (f : ℕ) → f < length codes / 2 → (peer_at codes f ≡ 0 → ⊥) → LinkOf adjacency codes f

-- with 2: the peer of each face is there
pub record PeersIn (k : List ℕ) (faces : ℕ) : Type 0 where
  pub codes : length k ≡ 2 * faces
  pub peers : (f : ℕ) → f < faces → peer_at k f ≤ faces
