-- The stencil of one cell, phase by phase: its faces, in 2D its second ring, and its zero-gradient faces. Definitions only.
use Rattle.std.specs.Prelude.{List, cond, ℕ, ◌-◌, ◌^◌, ◌<◌, eqb, Float, Option, None, Some, Ok, Err}
use Rattle.refusal.specs.Numbers.{refusal}
use Rattle.refusal.specs.declared.Reason.TheVariants.{TooNear, SingularStencil, NoCondition}
use Rattle.binary64.specs.Numbers.{zero64, one64, eps, is_far, ◌⊘◌}
use Rattle.vector.specs.Vector.{zero3, difference, scaled, quotient, norm_squared, norm}
use Rattle.matrix.specs.Normal.{outer, inverse}
use Rattle.vector.specs.declared.Vec3.{Vec3}
use Rattle.matrix.specs.declared.Normal.{Normal}
use Rattle.mesh.specs.Records.{owner_at, neighbour_at, face_centre, face_normal, centre, peer_at, translation_at, condition_at}
use Rattle.mesh.specs.declared.Condition.{Condition}
use Rattle.mesh.specs.declared.Condition.TheVariants.{Absent, Fixed, ZeroGradient}
use Rattle.numerics.specs.Slices.{from_self, from_cell}
use Rattle.stencil.specs.declared.inner.cell.Offer.{Offer}
use Rattle.stencil.specs.declared.inner.cell.Offer.TheVariants.{Closing, Missing, Difference}
use Rattle.stencil.specs.declared.inner.building.Source.TheVariants.{Fixed as FixedSource, Cell}
use Rattle.stencil.specs.declared.inner.cell.Phase.{Phase}
use Rattle.stencil.specs.declared.inner.cell.Phase.TheVariants.{Gather, Close}
use Rattle.stencil.specs.Ring.{ring}
use Rattle.stencil.specs.Lent.{Lent, cell_faces, web_of}
use Rattle.stencil.specs.Building.{Building, with_normal, Solved, with_inverse, Course, and_then, over_all, source_number, equation, push}
use Rattle.std.specs.Float.Ieee as Ieee

-- ---- what a face gives a cell

-- a one-cell face without a link, by its condition; `away` is its centre as seen from the cell's
unfoldable pub wall : Condition → Vec3 → Offer
wall Absent away = Missing
wall (Fixed v) away = Difference FixedSource away v
wall ZeroGradient away = Closing

-- the number of its source, if it has one, fits
abbrev pub Lendable : Offer → Type 0
Lendable Closing = Unit {0}
Lendable Missing = Unit {0}
Lendable (Difference source offset value) = source_number source < 2 ^ 64

-- the centre of another cell
abbrev pub to_cell : List Float → ℕ → ℕ → Offer
to_cell places c other = Difference (Cell other) (difference (centre places other) (centre places c)) zero64

-- a face with two cells: the other of them, at its centre
abbrev pub across_face : Lent → ℕ → ℕ → Offer
across_face l c f =
    let owner = owner_at l.mesh.adjacency f in
    let neighbour = neighbour_at l.mesh.adjacency f - 1 in
    to_cell l.mesh.places c (cond (eqb owner c) neighbour owner)

-- a linked face: the owner of its peer, at its centre less the translation
abbrev pub across_link : Lent → ℕ → ℕ → Offer
across_link l c f =
    let other = owner_at l.mesh.adjacency (peer_at l.bounds.codes f - 1) in
    let there = difference (centre l.mesh.places other) (translation_at l.bounds.values f) in
    Difference (Cell other) (difference there (centre l.mesh.places c)) zero64

-- what the face f gives the cell c: by its neighbour, else by its link, else by its condition
unfoldable pub offer : Lent → ℕ → ℕ → Offer
offer l c f =
    let one_cell = eqb (neighbour_at l.mesh.adjacency f) 0 in
    let unlinked = eqb (peer_at l.bounds.codes f) 0 in
    let away = difference (face_centre l.mesh.geometry f) (centre l.mesh.places c) in
    let condition = condition_at l.bounds.codes l.bounds.values f in
    cond one_cell (cond unlinked (wall condition away) (across_link l c f)) (across_face l c f)

-- ---- the faces of the cell

-- a difference at an offset, weighted by the inverse of the offset's square
unfoldable pub weighted : ℕ → ℕ → ℕ → Vec3 → Float → Building → Course Building
weighted records f source offset value b =
    let squared = norm_squared offset in
    let coefficient = scaled offset (one64 ⊘ squared) in
    cond (Ieee.le squared eps) (Err (refusal TooNear f))
    (push records (equation source coefficient value) (with_normal b (outer b.normal coefficient offset)))

unfoldable pub offered : ℕ → ℕ → Offer → Building → Course Building
offered records f Closing b = Ok b
offered records f Missing b = Err (refusal NoCondition f)
offered records f (Difference source offset value) b = weighted records f (source_number source) offset value b

unfoldable pub add_face : Lent → ℕ → ℕ → ℕ → Building → Course Building
add_face l records c f b = offered records f (offer l c f) b

-- in the order of their chain
unfoldable pub gather : Lent → ℕ → ℕ → Building → Course Building
gather l records c b = over_all (add_face l records c) (cell_faces l.mesh c) b

-- ---- the second ring

-- a cell of it; one that is too near, or at no finite distance, is passed over
unfoldable pub add_ring : Lent → ℕ → ℕ → ℕ → Building → Course Building
add_ring l records c d b =
    let offset = difference (centre l.mesh.places d) (centre l.mesh.places c) in
    let squared = norm_squared offset in
    let direction = quotient offset (norm offset) in
    cond (is_far squared)
    (push records (equation (from_cell d) (quotient offset squared) zero64) (with_normal b (outer b.normal direction direction)))
    (Ok b)

unfoldable pub extend : Lent → ℕ → ℕ → Building → Course Building
extend l records c b = over_all (add_ring l records c) (ring (web_of l.mesh) c) b

-- ---- the zero-gradient faces

-- the normal of one, where it has a direction
unfoldable pub add_normal : ℕ → Vec3 → Building → Course Building
add_normal records normal b =
    let direction = quotient normal (norm normal) in
    cond (is_far (norm normal))
    (push records (equation from_self zero3 zero64) (with_normal b (outer b.normal direction direction)))
    (Ok b)

unfoldable pub closing : ℕ → Vec3 → Offer → Building → Course Building
closing records normal Closing b = add_normal records normal b
closing records normal Missing b = Ok b
closing records normal (Difference source offset value) b = Ok b

unfoldable pub add_closing : Lent → ℕ → ℕ → ℕ → Building → Course Building
add_closing l records c f b = closing records (face_normal l.mesh.geometry f) (offer l c f) b

unfoldable pub close : Lent → ℕ → ℕ → Building → Course Building
close l records c b = over_all (add_closing l records c) (cell_faces l.mesh c) b

-- the two passes over the faces of a cell, in one
abbrev pub step_of : Phase → Lent → ℕ → ℕ → ℕ → Building → Course Building
step_of Gather = add_face
step_of Close = add_closing

abbrev pub over_faces : Phase → Lent → ℕ → ℕ → Building → Course Building
over_faces phase l records c b = over_all (step_of phase l records c) (cell_faces l.mesh c) b

-- ---- phase by phase, until the normal matrix has an inverse

-- finished with the inverse, or, where there is none, what follows
abbrev pub settle : Option Normal → Building → Course Solved → Course Solved
settle (Some i) b other = Ok (with_inverse b i)
settle None b other = other

abbrev pub inverse_of : Lent → Building → Option Normal
inverse_of l b = inverse l.mesh.counts.dimension b.normal

unfoldable pub finished : Lent → ℕ → Building → Course Solved
finished l c b = settle (inverse_of l b) b (Err (refusal SingularStencil c))

unfoldable pub finish : Lent → ℕ → ℕ → Building → Course Solved
finish l records c b = and_then (close l records c b) (finished l c)

unfoldable pub widened : Lent → ℕ → ℕ → Building → Course Solved
widened l records c b = settle (inverse_of l b) b (finish l records c b)

unfoldable pub widen : Lent → ℕ → ℕ → Building → Course Solved
widen l records c b = and_then (extend l records c b) (widened l records c)

unfoldable pub gathered : Lent → ℕ → ℕ → Building → Course Solved
gathered l records c b =
    settle (inverse_of l b) b (cond (eqb l.mesh.counts.dimension 2) (widen l records c b) (finish l records c b))

unfoldable pub cell_stencil : Lent → ℕ → ℕ → Building → Course Solved
cell_stencil l records c b = and_then (gather l records c b) (gathered l records c)
