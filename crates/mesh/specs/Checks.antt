-- The checks 1, 4 and 6 of docs/REFUSALS.md. Definitions only.
use Rattle.std.specs.Prelude.{List, [], ◌∷◌, Bool, true, false, not, ◌||◌, cond, ℕ, ◌+◌, ◌-◌, ◌/◌, eqb, leb, ltb, length, Option}
use Rattle.chain.specs.Search.{every_of, some_of, lowest_where}
use Rattle.mesh.specs.Records.{owner_at, neighbour_at, code_at, peer_at}
use Rattle.mesh.specs.declared.Counts.{Counts}

-- the most that a mesh may have of cells, of faces or of records of a chain
abbrev pub largest_count : ℕ
largest_count = 65535

-- 1: no cell, a count that is too large, or a dimension that is not 2 or 3, is refused
abbrev pub size_tests : Counts → List Bool
size_tests n =
    ltb 0 n.cells
    ∷ leb n.cells largest_count
    ∷ leb n.faces largest_count
    ∷ leb n.facings largest_count
    ∷ leb n.borderings largest_count
    ∷ (eqb n.dimension 2 || eqb n.dimension 3)
    ∷ []

abbrev pub sizes_ok : Counts → Bool
sizes_ok n = every_of (size_tests n)

-- 4: the owner or the neighbour names no cell, or the neighbour is the owner
abbrev pub bad_face : ℕ → List ℕ → ℕ → Bool
bad_face cells adjacency f =
    let owner = owner_at adjacency f in
    let neighbour = neighbour_at adjacency f in
    some_of (leb cells owner ∷ ltb cells neighbour ∷ eqb neighbour (owner + 1) ∷ [])

abbrev pub lowest_bad_face : ℕ → List ℕ → Option ℕ
lowest_bad_face cells adjacency = lowest_where (bad_face cells adjacency) (length adjacency / 2)

-- 4: the condition code is not 0, 1 or 2
abbrev pub unknown_code : List ℕ → ℕ → Bool
unknown_code codes f = ltb 2 (code_at codes f)

abbrev pub lowest_unknown_code : List ℕ → Option ℕ
lowest_unknown_code codes = lowest_where (unknown_code codes) (length codes / 2)

-- 6: a link stands on a two-cell face, or its peer is missing, itself, or not linked back
unfoldable pub bad_link : List ℕ → List ℕ → ℕ → Bool
bad_link adjacency codes f =
    let peer = peer_at codes f in
    let two_cells = not (eqb (neighbour_at adjacency f) 0) in
    let itself = eqb peer (f + 1) in
    let back = eqb (peer_at codes (peer - 1)) (f + 1) in
    cond (eqb peer 0) false (cond (ltb (length codes / 2) peer) true (some_of (two_cells ∷ itself ∷ not back ∷ [])))

abbrev pub lowest_bad_link : List ℕ → List ℕ → Option ℕ
lowest_bad_link adjacency codes = lowest_where (bad_link adjacency codes) (length codes / 2)
