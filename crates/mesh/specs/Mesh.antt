-- A mesh and its conditions as they are lent, and the checks of them in the order of docs/REFUSALS.md. Definitions only.
use Rattle.refusal.specs.declared.Reason.TheVariants.{BadSize, WrongLength, OtherMesh, BadFace, BrokenChain, CrowdedCell, BadLink, WrongDistance}
use Rattle.std.specs.Prelude.{◌≡◌, List, [], ◌∷◌, Bool, ◌&&◌, ℕ, ◌+◌, ◌*◌, ◌<◌, ◌≤◌, eqb, length, Float, Option}
use Rattle.mesh.specs.Answers.{pass, at, first_of, Answer}
use Rattle.chain.specs.Search.{every_of, lower}
use Rattle.mesh.specs.Checks.{sizes_ok, lowest_bad_face, lowest_unknown_code, lowest_bad_link}
use Rattle.chain.specs.Chains.{lowest_broken, Chain}
use Rattle.degree.specs.Degree.{most_faces, lowest_crowded, chain_length, lowest_long, FewNamings}
use Rattle.mesh.specs.Distances.{lowest_wrong_distances, lowest_wrong_between, Carried}
use Rattle.mesh.specs.Facts.{Small, CellsOf, LinkOf}
use Rattle.mesh.specs.Records.{peer_at, first_facing, first_bordering}
use Rattle.mesh.specs.declared.Counts.{Counts}
use Rattle.chain.specs.declared.Form.TheVariants.{First, Second, Single}

pub record Mesh : Type 0 where
  pub counts : Counts
  pub adjacency : List ℕ
  pub geometry : List Float
  pub heads : List ℕ
  pub places : List Float
  pub facing : List ℕ
  pub bordering : List ℕ

abbrev pub mesh : Counts → List ℕ → List Float → List ℕ → List Float → List ℕ → List ℕ → Mesh
mesh n a g h p f b = record { counts = n; adjacency = a; geometry = g; heads = h; places = p; facing = f; bordering = b }

-- the conditions and links of the faces
pub record Bounds : Type 0 where
  pub codes : List ℕ
  pub values : List Float

abbrev pub bounds : List ℕ → List Float → Bounds
bounds c v = record { codes = c; values = v }

-- the same with the number of their mesh
pub record Conditions : Type 0 where
  pub number : ℕ
  pub codes : List ℕ
  pub values : List Float

abbrev pub conditions : ℕ → List ℕ → List Float → Conditions
conditions n c v = record { number = n; codes = c; values = v }

abbrev pub bounds_of : Conditions → Bounds
bounds_of k = bounds k.codes k.values

-- 2: each slice is as long as its records
abbrev pub mesh_sizes : Mesh → List Bool
mesh_sizes m =
    eqb (length m.adjacency) (2 * m.counts.faces)
    ∷ eqb (length m.geometry) (11 * m.counts.faces)
    ∷ eqb (length m.heads) (2 * m.counts.cells)
    ∷ eqb (length m.places) (4 * m.counts.cells)
    ∷ eqb (length m.facing) (2 * m.counts.facings)
    ∷ eqb (length m.bordering) (2 * m.counts.borderings)
    ∷ []

abbrev pub mesh_sized : Mesh → Bool
mesh_sized m = every_of (mesh_sizes m)

abbrev pub conditions_sized : ℕ → List ℕ → List Float → Bool
conditions_sized faces codes values = eqb (length codes) (2 * faces) && eqb (length values) (4 * faces)

-- ---- the checks of the mesh, by what is lent

-- the adjacency alone, 4 and 14: the lowest bad face, then the lowest cell that too many faces name
unfoldable pub sides : ℕ → List ℕ → Answer
sides cells adjacency = first_of (at BadFace (lowest_bad_face cells adjacency) ∷ at CrowdedCell (lowest_crowded cells adjacency) ∷ [])

-- with a stencil's equations, whose sources are below the number of cells + 2, 4, 5 and 14: between the two the lowest cell whose
-- chain of them is broken
unfoldable pub with_equations : ℕ → List ℕ → List ℕ → List ℕ → Answer
with_equations cells adjacency equations starts =
    first_of
    (at BadFace (lowest_bad_face cells adjacency)
    ∷ at BrokenChain (lowest_broken (cells + 2) equations Single starts)
    ∷ at CrowdedCell (lowest_crowded cells adjacency)
    ∷ [])

-- with conditions and links, 4, 14 and 6: the lowest face that is bad by its cells or its code, and last the lowest badly linked one
abbrev pub lowest_four : ℕ → List ℕ → List ℕ → Option ℕ
lowest_four cells adjacency codes = lower (lowest_bad_face cells adjacency) (lowest_unknown_code codes)

unfoldable pub links : ℕ → List ℕ → List ℕ → Answer
links cells adjacency codes =
    first_of
    (at BadFace (lowest_four cells adjacency codes)
    ∷ at CrowdedCell (lowest_crowded cells adjacency)
    ∷ at BadLink (lowest_bad_link adjacency codes)
    ∷ [])

-- a whole mesh, 4, 5, 14 and 6: the lowest cell whose chain of faces or of neighbours is broken, then the lowest with too many
-- faces, by the faces that name it or by the records of its chain
abbrev pub lowest_five : Mesh → Option ℕ
lowest_five m = lower (lowest_broken m.counts.faces m.facing First m.heads) (lowest_broken m.counts.cells m.bordering Second m.heads)

abbrev pub lowest_fourteen : Mesh → Option ℕ
lowest_fourteen m = lower (lowest_long m.heads m.facing) (lowest_crowded m.counts.cells m.adjacency)

unfoldable pub topology : Mesh → List ℕ → Answer
topology m codes =
    first_of
    (at BadFace (lowest_four m.counts.cells m.adjacency codes)
    ∷ at BrokenChain (lowest_five m)
    ∷ at CrowdedCell (lowest_fourteen m)
    ∷ at BadLink (lowest_bad_link m.adjacency codes)
    ∷ [])

-- ---- with geometry and places, 20 after these: the lowest face that carries a wrong distance

unfoldable pub grid_sides : ℕ → List ℕ → List Float → List Float → Answer
grid_sides cells adjacency geometry places =
    first_of (sides cells adjacency ∷ at WrongDistance (lowest_wrong_between adjacency geometry places) ∷ [])

unfoldable pub grid_with_equations : ℕ → List ℕ → List Float → List Float → List ℕ → List ℕ → Answer
grid_with_equations cells adjacency geometry places equations starts =
    first_of (with_equations cells adjacency equations starts ∷ at WrongDistance (lowest_wrong_between adjacency geometry places) ∷ [])

unfoldable pub grid_links : ℕ → List ℕ → List Float → List Float → List ℕ → Answer
grid_links cells adjacency geometry places codes =
    first_of (links cells adjacency codes ∷ at WrongDistance (lowest_wrong_distances adjacency geometry places codes) ∷ [])

unfoldable pub whole_mesh : Mesh → List ℕ → Answer
whole_mesh m codes = first_of (topology m codes ∷ at WrongDistance (lowest_wrong_distances m.adjacency m.geometry m.places codes) ∷ [])

-- of shape, then of the mesh
unfoldable pub checks : Mesh → Conditions → Answer
checks m k =
    first_of
    (pass BadSize (sizes_ok m.counts)
    ∷ pass WrongLength (mesh_sized m && conditions_sized m.counts.faces k.codes k.values)
    ∷ pass OtherMesh (eqb k.number m.counts.mesh)
    ∷ whole_mesh m k.codes
    ∷ [])

-- ---- what the checks establish

pub record Sized (m : Mesh) : Type 0 where
  pub adjacency : length m.adjacency ≡ 2 * m.counts.faces
  pub geometry : length m.geometry ≡ 11 * m.counts.faces
  pub heads : length m.heads ≡ 2 * m.counts.cells
  pub places : length m.places ≡ 4 * m.counts.cells
  pub facing : length m.facing ≡ 2 * m.counts.facings
  pub bordering : length m.bordering ≡ 2 * m.counts.borderings

pub record Sound (m : Mesh) (codes : List ℕ) : Type 0 where
  pub faces : (f : ℕ) → f < m.counts.faces → CellsOf m.counts.cells m.adjacency f
  pub facings : (c : ℕ) → c < m.counts.cells → Chain m.facing m.counts.facings m.counts.faces (first_facing m.heads c)
  pub borderings : (c : ℕ) → c < m.counts.cells → Chain m.bordering m.counts.borderings m.counts.cells (first_bordering m.heads c)
  pub few : FewNamings m.counts.cells m.adjacency
  pub short : (c : ℕ) → c < m.counts.cells → chain_length m.facing m.heads c ≤ most_faces
  pub links : (f : ℕ) → f < m.counts.faces → (peer_at codes f ≡ 0 → ⊥) → LinkOf m.adjacency codes f

pub record Good (m : Mesh) (k : Conditions) : Type 0 where
  pub small : Small m.counts
  pub sized : Sized m
  pub codes : length k.codes ≡ 2 * m.counts.faces
  pub values : length k.values ≡ 4 * m.counts.faces
  pub same : k.number ≡ m.counts.mesh
  pub sound : Sound m k.codes
  pub carried : (f : ℕ) → f < m.counts.faces → Carried m.adjacency m.geometry m.places f
