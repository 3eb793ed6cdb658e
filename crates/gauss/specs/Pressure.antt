-- The pressure of every face, from those of the cells. Definitions only.
use Rattle.std.specs.Prelude.{◌≡◌, List, cond, ℕ, ◌<◌, eqb, get_or, Float}
use Rattle.std.specs.Float.{nan}
use Rattle.binary64.specs.Numbers.{zero64, ◌⊕◌}
use Rattle.mesh.specs.Mesh.{Bounds}
use Rattle.mesh.specs.Records.{neighbour_at, code_at, peer_at, condition_at}
use Rattle.mesh.specs.declared.Condition.{Condition}
use Rattle.mesh.specs.declared.Condition.TheVariants.{Absent, Fixed, ZeroGradient}
use Rattle.coupling.specs.Face.{distances, interpolated}
use Rattle.coupling.specs.Grid.{Grid, own_cell, other_cell, span, pair_at, peer_cell, linked_span}
use Rattle.gauss.specs.Gauss.{gauss_gradients}

-- of a face with one cell and no link: its fixed value, else its owner's pressure, to which +0.0 is added
unfoldable pub one_sided : Condition → Float → Float
one_sided (Fixed v) own = v
one_sided ZeroGradient own = own ⊕ zero64
one_sided Absent own = own ⊕ zero64

-- between two cells, and between a cell and what lies beyond its linked face; whatever the distances are
unfoldable pub between : Grid → List Float → ℕ → Float
between m p f = interpolated (distances (span m f)) (pair_at m p f (other_cell m f))

unfoldable pub linked : Grid → Bounds → List Float → ℕ → Float
linked m k p f = interpolated (distances (linked_span m k f)) (pair_at m p f (peer_cell m k f))

-- of any face: its link is looked at before its condition
unfoldable pub face_pressure : Grid → Bounds → List Float → ℕ → Float
face_pressure m k p f =
    let own = get_or p (own_cell m f) nan in
    let alone = cond (eqb (peer_at k.codes f) 0) (one_sided (condition_at k.codes k.values f) own) (linked m k p f) in
    cond (eqb (neighbour_at m.adjacency f) 0) alone (between m p f)

-- with no condition and no link
unfoldable pub pressure_without_conditions : Grid → List Float → ℕ → Float
pressure_without_conditions m p f =
    cond (eqb (neighbour_at m.adjacency f) 0) (one_sided Absent (get_or p (own_cell m f) nan)) (between m p f)

-- a law: the gradient without conditions is that with conditions which are all absent and no link
abbrev pub Unconditioned : Type 0
Unconditioned =
    (m : Grid) (k : Bounds) (p : List Float) (cells faces : ℕ)
    → ((f : ℕ) → f < faces → (code_at k.codes f ≡ 0) × (peer_at k.codes f ≡ 0))
    → gauss_gradients m (face_pressure m k p) cells faces ≡ gauss_gradients m (pressure_without_conditions m p) cells faces
