-- How many faces a cell has, counted twice over: the faces that name it, and the records of its chain of faces. Check 14. Definitions only.
use Rattle.std.specs.Prelude.{◌≡◌, List, Bool, ◌||◌, cond, ℕ, zero, suc, ◌+◌, ◌/◌, ◌<◌, ◌≤◌, eqb, ltb, length, Option}
use Rattle.chain.specs.Pairs.{first_at, second_at}
use Rattle.chain.specs.Search.{lowest_where}
use Rattle.chain.specs.Chains.{head_at, cell_count, walk, lowest_broken}
use Rattle.chain.specs.declared.Form.TheVariants.{First}
use Rattle.degree.specs.declared.Facing.{Facing}

-- the most faces that a cell may have
abbrev pub most_faces : ℕ
most_faces = 26

-- ---- the faces that name a cell

-- the cells of the face f, where check 4 has passed: owner and neighbour, which stands as cell + 1, are there and differ
pub record CellsOf (cells : ℕ) (adjacency : List ℕ) (f : ℕ) : Type 0 where
  pub owner : first_at adjacency f < cells
  pub neighbour : second_at adjacency f ≤ cells
  pub apart : second_at adjacency f ≡ first_at adjacency f + 1 → ⊥

abbrev pub FacesIn : ℕ → List ℕ → Type 0
FacesIn cells adjacency = (f : ℕ) → f < length adjacency / 2 → CellsOf cells adjacency f

-- how many indices below n the test holds at
unfoldable pub count_where : (ℕ → Bool) → ℕ → ℕ
count_where g zero = 0
count_where g (suc n) = cond (g n) (suc (count_where g n)) (count_where g n)

-- whether the face f names the cell c, as its owner or as its neighbour, which stands as cell + 1
unfoldable pub names : List ℕ → ℕ → ℕ → Bool
names adjacency c f =
    let owner = first_at adjacency f in
    let neighbour = second_at adjacency f in
    eqb owner c || eqb neighbour (suc c)

abbrev pub namings : List ℕ → ℕ → ℕ
namings adjacency c = count_where (names adjacency c) (length adjacency / 2)

-- no cell is named by more
abbrev pub FewNamings : ℕ → List ℕ → Type 0
FewNamings cells adjacency = (c : ℕ) → c < cells → namings adjacency c ≤ most_faces

-- 14: too many faces name the cell
unfoldable pub crowded : List ℕ → ℕ → Bool
crowded adjacency c = ltb most_faces (namings adjacency c)

abbrev pub lowest_crowded : ℕ → List ℕ → Option ℕ
lowest_crowded cells adjacency = lowest_where (crowded adjacency) cells

-- ---- the records of a cell's chain of faces

abbrev pub chain_length : List ℕ → List ℕ → ℕ → ℕ
chain_length facing heads c = length (walk facing (length facing / 2) (head_at First heads c))

-- 14: the cell's chain has too many; a face counts as often as it stands there
unfoldable pub long : List ℕ → List ℕ → ℕ → Bool
long facing heads c = ltb most_faces (chain_length facing heads c)

abbrev pub lowest_long : List ℕ → List ℕ → Option ℕ
lowest_long heads facing = lowest_where (long facing heads) (cell_count First heads)

-- what 5 and 14 find of the chains of faces
abbrev pub searched : ℕ → List ℕ → List ℕ → Facing
searched faces heads facing = record { broken = lowest_broken faces facing First heads; long = lowest_long heads facing }
