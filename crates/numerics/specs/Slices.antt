-- The four slices of a stencil, the sources of its equations, and check 2 of the lengths. Definitions only.
use Rattle.std.specs.Prelude.{List, [], ◌∷◌, Bool, ℕ, ◌+◌, ◌*◌, eqb, length, Float}
use Rattle.chain.specs.Chains.{item_of}
use Rattle.chain.specs.Search.{every_of}
use Rattle.mesh.specs.Lent.{Slice, MutSlice}

-- the lengths of a stencil's slices
pub record Lengths : Type 0 where
  pub starts : ℕ
  pub equations : ℕ
  pub weights : ℕ
  pub inverses : ℕ

abbrev pub lengths : ℕ → ℕ → ℕ → ℕ → Lengths
lengths s e w i = record { starts = s; equations = e; weights = w; inverses = i }

-- check 2, of a stencil of so many cells and records
abbrev pub stencil_sizes : ℕ → ℕ → Lengths → List Bool
stencil_sizes cells records n =
    eqb n.starts cells ∷ eqb n.equations (2 * records) ∷ eqb n.weights (4 * records) ∷ eqb n.inverses (9 * cells) ∷ []

abbrev pub stencil_sized : ℕ → ℕ → Lengths → Bool
stencil_sized cells records n = every_of (stencil_sizes cells records n)

-- the four slices of a stencil
pub record Slices : Type 0 where
  pub starts : List ℕ
  pub equations : List ℕ
  pub weights : List Float
  pub inverses : List Float

abbrev pub slices : List ℕ → List ℕ → List Float → List Float → Slices
slices s e w i = record { starts = s; equations = e; weights = w; inverses = i }

abbrev pub lengths_of : Slices → Lengths
lengths_of s = lengths (length s.starts) (length s.equations) (length s.weights) (length s.inverses)

-- from the slices as a clause names them, at the call, and after a call that writes them
abbrev pub slices_before : Slice ℕ → Slice ℕ → Slice Float → Slice Float → Slices
slices_before s e w i = slices s.entry.now e.entry.now w.entry.now i.entry.now

abbrev pub slices_after : MutSlice ℕ → MutSlice ℕ → MutSlice Float → MutSlice Float → Slices
slices_after s e w i = slices s.exit.now e.exit.now w.exit.now i.exit.now

-- where the other value of an equation comes from: the cell's own for a zero normal derivative, the equation's own, or that
-- of the cell c
abbrev pub from_self : ℕ
from_self = 0

abbrev pub from_value : ℕ
from_value = 1

abbrev pub from_cell : ℕ → ℕ
from_cell c = c + 2

-- and which source the record r has
abbrev pub source_of : List ℕ → ℕ → ℕ
source_of equations r = item_of equations r
