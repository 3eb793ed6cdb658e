-- What a step is lent and its outputs, from single slices as a clause names them, as the C interface has them. Definitions only.
use Rattle.std.specs.Prelude.{ℕ, Float}
use Rattle.mesh.specs.Lent.{Slice, MutSlice}
use Rattle.mesh.specs.Mesh.{Mesh, Conditions}
use Rattle.numerics.specs.Slices.{slices, slices_after}
use Rattle.coupling.specs.Grid.{field_lent}
use Rattle.scheme.specs.Step.{Inputs, inputs}
use Rattle.step.specs.Call.{Handed, handed}

-- each field after its mesh number: velocity, pressure, responses, wall fluxes, correction
abbrev pub inputs_lent : Mesh → Conditions → ℕ → ℕ → Slice Float → ℕ → Slice Float → ℕ → Slice Float → ℕ → Slice Float → ℕ → Slice Float → Inputs
inputs_lent m k n a v b p c r d w e x = inputs m k n (field_lent a v) (field_lent b p) (field_lent c r) (field_lent d w) (field_lent e x)

-- the outputs at the call, and after it
abbrev pub outputs_before : MutSlice ℕ → MutSlice ℕ → MutSlice Float → MutSlice Float → MutSlice Float → MutSlice Float → MutSlice Float → MutSlice Float → MutSlice Float → MutSlice Float → Handed
outputs_before s e w i g p k f o m =
    handed (slices s.entry.now e.entry.now w.entry.now i.entry.now) g.entry.now p.entry.now k.entry.now f.entry.now o.entry.now m.entry.now

abbrev pub outputs_after : MutSlice ℕ → MutSlice ℕ → MutSlice Float → MutSlice Float → MutSlice Float → MutSlice Float → MutSlice Float → MutSlice Float → MutSlice Float → MutSlice Float → Handed
outputs_after s e w i g p k f o m =
    handed (slices_after s e w i) g.exit.now p.exit.now k.exit.now f.exit.now o.exit.now m.exit.now
