-- Namings as they are counted: a list with a number for each cell, which goes no further than a byte. And chains that are found
-- short in one reading of the records. Definitions only.
use Rattle.std.specs.Prelude.{◌≡◌, List, Bool, true, ◌&&◌, cond, ℕ, zero, suc, ◌+◌, ◌-◌, ◌^◌}
use Rattle.std.specs.Prelude.{◌/◌, ◌≤◌, ◌<◌, eqb, ltb, min, length, get_or, set, Option, None, Some}
use Rattle.chain.specs.Pairs.{first_at, second_at}
use Rattle.chain.specs.Chains.{ends}
use Rattle.degree.specs.Degree.{most_faces}

-- a count stops at 255
abbrev pub capped : ℕ → ℕ
capped n = min n (2 ^ 8 - 1)

-- one more for a cell
abbrev pub bumped : List ℕ → ℕ → List ℕ
bumped l c = set l c (capped (get_or l c 0 + 1))

-- one more for each cell that the face f names
unfoldable pub with_face : List ℕ → ℕ → List ℕ → List ℕ
with_face adjacency f l =
    let neighbour = second_at adjacency f in
    let k = bumped l (first_at adjacency f) in
    cond (eqb neighbour 0) k (bumped k (neighbour - 1))

-- the faces below n
unfoldable pub counted : List ℕ → List ℕ → ℕ → List ℕ
counted adjacency l zero = l
counted adjacency l (suc n) = with_face adjacency n (counted adjacency l n)

-- where the chain of the record behind i, both from 0, begins: where that of i does, which is `begin`, if i leads there;
-- behind i if i ends its chain, which is short; else nowhere
unfoldable pub begin_after : ℕ → List ℕ → ℕ → ℕ → Option ℕ
begin_after limit l i begin =
    cond (ltb (first_at l i) limit)
    (cond (eqb (second_at l i) (i + 2)) (Some begin) (cond (eqb (second_at l i) 0 && ltb (i - begin) most_faces) (Some (i + 1)) None))
    None

-- the chain from the record r on ends, with items below the limit, within as few records as a cell may have
pub record Short (l : List ℕ) (limit r : ℕ) : Type 0 where
  pub left : ℕ
  pub few : left ≤ most_faces
  pub within : left ≤ length l / 2
  pub sound : ends l (length l / 2) limit left r ≡ true

abbrev pub AllShort : Bool → ℕ → List ℕ → Type 0
AllShort b limit l = b ≡ true → (i : ℕ) → i < length l / 2 → Short l limit (suc i)
