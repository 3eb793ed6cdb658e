-- A mesh and its conditions from the slices as a clause names them, each a pair of the reference at the call and after it. Definitions only.
use Rattle.std.specs.Prelude.{List, ℕ, Float}
use Rattle.std.specs.Borrow.{Bor, MutBor}
use denote.Triple.Both.{Both}
use Rattle.mesh.specs.Mesh.{Mesh, mesh, Bounds, bounds, Conditions, conditions}
use Rattle.mesh.specs.declared.Counts.{Counts}

abbrev pub Slice : Type 0 → Type 0
Slice X = Both (Bor (List X)) (Bor (List X))

-- of a slice that the call writes
abbrev pub MutSlice : Type 0 → Type 0
MutSlice X = Both (MutBor (List X)) (MutBor (List X))

-- as they are at the call
abbrev pub mesh_lent : Counts → Slice ℕ → Slice Float → Slice ℕ → Slice Float → Slice ℕ → Slice ℕ → Mesh
mesh_lent n a g h p f b = mesh n a.entry.now g.entry.now h.entry.now p.entry.now f.entry.now b.entry.now

abbrev pub conditions_lent : ℕ → Slice ℕ → Slice Float → Conditions
conditions_lent n c v = conditions n c.entry.now v.entry.now

abbrev pub bounds_lent : Slice ℕ → Slice Float → Bounds
bounds_lent c v = bounds c.entry.now v.entry.now
