-- The distances that a face carries, as the geometry has them, and check 20 of docs/REFUSALS.md. Definitions only.
use Rattle.std.specs.Prelude.{◌≡◌, List, [], ◌∷◌, Bool, true, not, ◌&&◌, cond, ℕ, ◌-◌, ◌/◌, eqb, length, Float, Option}
use Rattle.binary64.specs.Numbers.{zero64, same}
use Rattle.vector.specs.Vector.{norm, difference}
use Rattle.chain.specs.Search.{some_of, lowest_where}
use Rattle.mesh.specs.Records.{owner_at, neighbour_at, face_centre, centre, own_distance_at, other_distance_at, peer_at}

-- how far the centre of the face f is from that of the cell c
abbrev pub distance_to : List Float → List Float → ℕ → ℕ → Float
distance_to geometry places f c = norm (difference (face_centre geometry f) (centre places c))

-- from that of its owner, and from that of its neighbour where it has one
abbrev pub owner_distance : List ℕ → List Float → List Float → ℕ → Float
owner_distance adjacency geometry places f = distance_to geometry places f (owner_at adjacency f)

abbrev pub neighbour_distance : List ℕ → List Float → List Float → ℕ → Float
neighbour_distance adjacency geometry places f = distance_to geometry places f (neighbour_at adjacency f - 1)

-- the other side's: the neighbour's; of a linked face that of the peer's centre from its own owner's; +0.0 where there is no other side
unfoldable pub other_distance : List ℕ → List Float → List Float → List ℕ → ℕ → Float
other_distance adjacency geometry places codes f =
    let peer = peer_at codes f in
    let beyond = cond (eqb peer 0) zero64 (owner_distance adjacency geometry places (peer - 1)) in
    cond (eqb (neighbour_at adjacency f) 0) beyond (neighbour_distance adjacency geometry places f)

-- ---- 20: a distance that the face carries has other bits

unfoldable pub wrong_distances : List ℕ → List Float → List Float → List ℕ → ℕ → Bool
wrong_distances adjacency geometry places codes f =
    let own = same (own_distance_at geometry f) (owner_distance adjacency geometry places f) in
    let other = same (other_distance_at geometry f) (other_distance adjacency geometry places codes f) in
    some_of (not own ∷ not other ∷ [])

-- where no links are lent, the other side of a face with one cell is not known, and not looked at
unfoldable pub wrong_between : List ℕ → List Float → List Float → ℕ → Bool
wrong_between adjacency geometry places f =
    let two_cells = not (eqb (neighbour_at adjacency f) 0) in
    let own = same (own_distance_at geometry f) (owner_distance adjacency geometry places f) in
    let other = same (other_distance_at geometry f) (neighbour_distance adjacency geometry places f) in
    some_of (not own ∷ (two_cells && not other) ∷ [])

abbrev pub lowest_wrong_distances : List ℕ → List Float → List Float → List ℕ → Option ℕ
lowest_wrong_distances adjacency geometry places codes = lowest_where (wrong_distances adjacency geometry places codes) (length geometry / 11)

abbrev pub lowest_wrong_between : List ℕ → List Float → List Float → Option ℕ
lowest_wrong_between adjacency geometry places = lowest_where (wrong_between adjacency geometry places) (length geometry / 11)

-- what 20 establishes of the face f, with links or without: its owner's distance, and its neighbour's where it has one
pub record Carried (adjacency : List ℕ) (geometry places : List Float) (f : ℕ) : Type 0 where
  pub own : same (own_distance_at geometry f) (owner_distance adjacency geometry places f) ≡ true
  pub other : (neighbour_at adjacency f ≡ 0 → ⊥) → same (other_distance_at geometry f) (neighbour_distance adjacency geometry places f) ≡ true
