-- The entry that makes the distances of all faces: its checks, its answer, and what the geometry holds. Definitions only.
use Rattle.refusal.specs.declared.Reason.TheVariants.{BadSize, WrongLength, OtherMesh}
use Rattle.std.specs.Prelude.{◌≡◌, List, [], ◌∷◌, Bool, ℕ, zero, suc, ◌+◌, ◌*◌, eqb, length, set, Float, None}
use Rattle.chain.specs.Search.{every_of}
use Rattle.mesh.specs.Answers.{pass, first_of, Answer, accepted}
use Rattle.mesh.specs.Checks.{sizes_ok}
use Rattle.mesh.specs.Distances.{owner_distance, other_distance, lowest_wrong_distances, lowest_wrong_between}
use Rattle.mesh.specs.Mesh.{links}
use Rattle.mesh.specs.Pass.{if_refused}
use Rattle.mesh.specs.declared.Counts.{Counts}

abbrev pub put_distances : List Float → ℕ → Float → Float → List Float
put_distances l f own other = set (set l (11 * f + 9) own) (11 * f + 10) other

-- the geometry with both distances of the faces below n, by its centres as they are lent
unfoldable pub with_distances : List ℕ → List Float → List Float → List ℕ → ℕ → List Float
with_distances adjacency geometry places codes zero = geometry
with_distances adjacency geometry places codes (suc n) =
    put_distances (with_distances adjacency geometry places codes n) n
    (owner_distance adjacency geometry places n)
    (other_distance adjacency geometry places codes n)

-- 2, of a geometry of so many numbers
abbrev pub distance_sizes : Counts → List ℕ → List Float → List ℕ → ℕ → List Bool
distance_sizes n adjacency places codes geometry =
    eqb (length adjacency) (2 * n.faces)
    ∷ eqb (length places) (4 * n.cells)
    ∷ eqb (length codes) (2 * n.faces)
    ∷ eqb geometry (11 * n.faces)
    ∷ []

-- those of shape, and those of the adjacency with links; `number` is the mesh number of the conditions
unfoldable pub distance_checks : Counts → List ℕ → List Float → ℕ → List ℕ → ℕ → Answer
distance_checks n adjacency places number codes geometry =
    first_of
    (pass BadSize (sizes_ok n)
    ∷ pass WrongLength (every_of (distance_sizes n adjacency places codes geometry))
    ∷ pass OtherMesh (eqb number n.mesh)
    ∷ links n.cells adjacency codes
    ∷ [])

-- the answer, and what the geometry holds after the call: untouched where a check refuses
pub record DistancesCall (n : Counts) (adjacency : List ℕ) (places : List Float) (number : ℕ) (codes : List ℕ) (old : List Float) (r : Answer) (new : List Float) : Type 0 where
  pub answer : r ≡ distance_checks n adjacency places number codes (length old)
  pub geometry :
      new ≡ if_refused (distance_checks n adjacency places number codes (length old)) old (with_distances adjacency old places codes n.faces)

-- what an accepted call leaves passes 20, with these links and without links
pub record Passes20 (adjacency : List ℕ) (places : List Float) (codes : List ℕ) (geometry : List Float) : Type 0 where
  pub linked : lowest_wrong_distances adjacency geometry places codes ≡ None
  pub between : lowest_wrong_between adjacency geometry places ≡ None

abbrev pub Passing : Answer → List ℕ → List Float → List ℕ → List Float → Type 0
Passing r adjacency places codes geometry = r ≡ accepted → Passes20 adjacency places codes geometry
