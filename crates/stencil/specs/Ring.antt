-- The second ring of a cell: the neighbours of its neighbours that are neither itself nor neighbours, in rising order.
use Rattle.std.specs.Prelude.{◌≡◌, List, [], ◌∷◌, Bool, not, ◌&&◌, cond, ℕ, zero, suc, ◌+◌, ◌*◌, ◌-◌, ◌<◌, eqb, leb, ltb, length, Option, None, Some}
use Rattle.std.specs.List.{list_any, fold}
use Rattle.chain.specs.Chains.{walk, Chain}
use Rattle.mesh.specs.Records.{first_bordering}
use Rattle.mesh.specs.declared.Counts.{Counts}

-- whether a list has d
abbrev pub elem : ℕ → List ℕ → Bool
elem d es = list_any (λ e. eqb e d) es

-- which cells are neighbours: for each cell the first records of its two chains, and the records of neighbours
pub record Ways : Type 0 where
  pub counts : Counts
  pub heads : List ℕ
  pub bordering : List ℕ

abbrev pub ways : Counts → List ℕ → List ℕ → Ways
ways n h b = record { counts = n; heads = h; bordering = b }

-- what the shape and mesh checks establish of them
pub record Web (w : Ways) : Type 0 where
  pub heads_size : length w.heads ≡ 2 * w.counts.cells
  pub bordering_size : length w.bordering ≡ 2 * w.counts.borderings
  pub ended : (c : ℕ) → c < w.counts.cells → Chain w.bordering w.counts.borderings w.counts.cells (first_bordering w.heads c)

abbrev pub neighbours_of : Ways → ℕ → List ℕ
neighbours_of w c = walk w.bordering w.counts.borderings (first_bordering w.heads c)

-- d is neither c nor a neighbour of c
unfoldable pub fresh : Ways → ℕ → ℕ → Bool
fresh w c d = not (eqb d c) && not (elem d (neighbours_of w c))

abbrev pub beside : Ways → ℕ → ℕ → Bool
beside w d n = elem d (neighbours_of w n)

unfoldable pub in_ring : Ways → ℕ → ℕ → Bool
in_ring w c d = fresh w c d && list_any (beside w d) (neighbours_of w c)

-- those of d, d + 1, .. (n of them) for which p holds
unfoldable pub up_from : (ℕ → Bool) → ℕ → ℕ → List ℕ
up_from p zero d = []
up_from p (suc n) d = cond (p d) (d ∷ up_from p n (d + 1)) (up_from p n (d + 1))

unfoldable pub ring : Ways → ℕ → List ℕ
ring w c = up_from (in_ring w c) w.counts.cells 0

-- its cells from d on; and those from the next one on, if there is one
abbrev pub ring_from : Ways → ℕ → ℕ → List ℕ
ring_from w c d = up_from (in_ring w c) (w.counts.cells - d) d

abbrev pub ring_at : Ways → ℕ → Option ℕ → List ℕ
ring_at w c None = []
ring_at w c (Some d) = d ∷ ring_from w c (d + 1)

-- the search for the next: the lowest fresh cell from `from` on among those listed, or `best` where that is lower
unfoldable pub lower_fresh : Ways → ℕ → ℕ → ℕ → ℕ → ℕ
lower_fresh w c from best d = cond (leb from d && (ltb d best && fresh w c d)) d best

abbrev pub lowest_in : Ways → ℕ → ℕ → ℕ → List ℕ → ℕ
lowest_in w c from best ds = fold (lower_fresh w c from) best ds

abbrev pub lowest_all : Ways → ℕ → ℕ → ℕ → List ℕ → ℕ
lowest_all w c from best ns = fold (λ b n. lowest_in w c from b (neighbours_of w n)) best ns
