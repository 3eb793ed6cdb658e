-- The stencil of every cell, in order: the first refusal, or what is handed out. Definitions only.
use Rattle.mesh.specs.Answers.{Answer, accepted}
use Rattle.std.specs.Prelude.{◌≡◌, List, cond, ℕ, zero, suc, ◌+◌, ◌*◌, ◌-◌, ltb, set, length, replicate, Float, Ok, Err}
use Rattle.binary64.specs.Numbers.{zero64}
use Rattle.matrix.specs.Normal.{zero9}
use Rattle.matrix.specs.declared.Normal.{Normal}
use Rattle.numerics.specs.Slices.{Slices, slices}
use Rattle.stencil.specs.Lent.{Lent}
use Rattle.stencil.specs.Building.{building, Solved, Course}
use Rattle.stencil.specs.Cell.{cell_stencil}

-- the record that a cell's chain starts with, if `used` records were `old` before it
unfoldable pub start_of : ℕ → ℕ → ℕ
start_of old used = cond (ltb old used) (old + 1) 0

-- the last record of a cell's chain ends it: its next record is the last number of those used
unfoldable pub ended_at : ℕ → ℕ → List ℕ → List ℕ
ended_at old used l = cond (ltb old used) (set l (2 * used - 1) 0) l

-- the nine numbers of the cell c, row by row
unfoldable pub put_nine : List Float → ℕ → Normal → List Float
put_nine l c n =
    let b = 9 * c in
    set (set (set (set (set (set (set (set (set l b n.xx) (b + 1) n.xy) (b + 2) n.xz) (b + 3) n.yx) (b + 4) n.yy)
    (b + 5) n.yz) (b + 6) n.zx) (b + 7) n.zy) (b + 8) n.zz

-- the slices that are handed out, and the number of records used
pub record Stencil : Type 0 where
  pub used : ℕ
  pub slices : Slices

abbrev pub stencil : ℕ → List ℕ → List ℕ → List Float → List Float → Stencil
stencil u s e w i = record { used = u; slices = slices s e w i }

-- zeros throughout
abbrev pub blank : Lent → ℕ → Slices
blank l records =
    let cells = l.mesh.counts.cells in
    slices (replicate cells 0) (replicate (2 * records) 0) (replicate (4 * records) zero64) (replicate (9 * cells) zero64)

-- the slices have the lengths of a stencil of so many records
pub record SlicesSized (l : Lent) (records : ℕ) (s : Slices) : Type 0 where
  pub starts : length s.starts ≡ l.mesh.counts.cells
  pub equations : length s.equations ≡ 2 * records
  pub weights : length s.weights ≡ 4 * records
  pub inverses : length s.inverses ≡ 9 * l.mesh.counts.cells

-- the stencil with that of the cell c added
unfoldable pub joined : ℕ → Stencil → Course Solved → Course Stencil
joined c s (Err e) = Err e
joined c s (Ok b) =
    Ok
    (stencil b.used (set s.slices.starts c (start_of s.used b.used)) (ended_at s.used b.used b.equations)
    b.weights (put_nine s.slices.inverses c b.inverse))

unfoldable pub add_cell : Lent → ℕ → ℕ → Course Stencil → Course Stencil
add_cell l records c (Err e) = Err e
add_cell l records c (Ok s) =
    joined c s (cell_stencil l records c (building s.used s.slices.equations s.slices.weights zero9))

-- the cells below n
unfoldable pub below : Lent → ℕ → ℕ → Course Stencil
below l records zero = Ok (record { used = 0; slices = blank l records })
below l records (suc n) = add_cell l records n (below l records n)

abbrev pub whole : Lent → ℕ → Course Stencil
whole l records = below l records l.mesh.counts.cells

-- ---- what is handed out: after a refusal, zeros throughout

unfoldable pub answer_of : Course Stencil → Answer
answer_of (Err e) = Err e
answer_of (Ok s) = accepted

unfoldable pub slices_after : Lent → ℕ → Course Stencil → Slices
slices_after l records (Err e) = blank l records
slices_after l records (Ok s) = s.slices

unfoldable pub stencil_answer : Lent → ℕ → Answer
stencil_answer l records = answer_of (whole l records)

unfoldable pub stencil_slices : Lent → ℕ → Slices
stencil_slices l records = slices_after l records (whole l records)

-- what the pass over the cells comes to, in slices that were blank: its refusal, or the slices as they are handed out
abbrev pub Filled : Lent → ℕ → Answer → Slices → Type 0
Filled l records (Err e) s = whole l records ≡ Err e
Filled l records (Ok u) s = (used : ℕ) × (whole l records ≡ Ok (record { used = used; slices = s }))

-- zeros throughout, of the same lengths
abbrev pub cleared : Slices → Slices
cleared s =
    slices (replicate (length s.starts) 0) (replicate (length s.equations) 0) (replicate (length s.weights) zero64)
    (replicate (length s.inverses) zero64)
