-- What the coupling reads of a mesh: adjacency, geometry and places; a face with its two sides; and what the checks establish. Definitions only.
use Rattle.std.specs.Prelude.{◌≡◌, List, [], ◌∷◌, Bool, ℕ, ◌-◌, ◌*◌, ◌<◌, eqb, length, get_or, Float}
use Rattle.std.specs.Float.{nan}
use Rattle.mesh.specs.Facts.{CellsOf}
use Rattle.mesh.specs.Distances.{Carried}
use Rattle.mesh.specs.Lent.{Slice}
use Rattle.mesh.specs.Mesh.{Bounds}
use Rattle.mesh.specs.Records.{owner_at, neighbour_at, centre, face_at, peer_at, translation_at}
use Rattle.vector.specs.Vector.{difference}
use Rattle.chain.specs.Search.{every_of}
use Rattle.mesh.specs.declared.Counts.{Counts}
use Rattle.mesh.specs.declared.Face.{Face}
use Rattle.mesh.specs.declared.lent.Grid.{Grid as LentGrid}
use Rattle.mesh.specs.declared.lent.Field.{Field as LentField}
use Rattle.vector.specs.declared.Vec3.{Vec3}
use Rattle.coupling.specs.Face.{pair}
use Rattle.coupling.specs.declared.Pair.{Pair}
use Rattle.coupling.specs.declared.Span.{Span}

pub record Grid : Type 0 where
  pub adjacency : List ℕ
  pub geometry : List Float
  pub places : List Float

abbrev pub grid : List ℕ → List Float → List Float → Grid
grid a g p = record { adjacency = a; geometry = g; places = p }

-- from the slices as a clause names them, at the call
abbrev pub grid_lent : Slice ℕ → Slice Float → Slice Float → Grid
grid_lent a g p = grid a.entry.now g.entry.now p.entry.now

-- of a grid as it is lent
abbrev pub grid_of_lent : LentGrid → Grid
grid_of_lent m = grid m.adjacency.now m.geometry.now m.places.now

-- the owner of a face, and the other cell of a face with two
abbrev pub own_cell : Grid → ℕ → ℕ
own_cell m f = owner_at m.adjacency f

abbrev pub other_cell : Grid → ℕ → ℕ
other_cell m f = neighbour_at m.adjacency f - 1

-- the face f, with a centre on its other side
abbrev pub span_of : Face → List Float → Vec3 → Span
span_of face places other = record { center = face.center; area = face.area; owner = centre places face.owner; other = other }

abbrev pub span_to : Grid → ℕ → Vec3 → Span
span_to m f other = span_of (face_at m.adjacency m.geometry f) m.places other

-- the face f between its two cells
abbrev pub span : Grid → ℕ → Span
span m f = span_to m f (centre m.places (other_cell m f))

-- what lies beyond the linked face f: the owner of its peer, whose centre is seen from this side
abbrev pub peer_cell : Grid → Bounds → ℕ → ℕ
peer_cell m k f = own_cell m (peer_at k.codes f - 1)

abbrev pub linked_span : Grid → Bounds → ℕ → Span
linked_span m k f = span_to m f (difference (centre m.places (peer_cell m k f)) (translation_at k.values f))

-- a field's numbers at the owner of f and at the cell n
abbrev pub pair_at : Grid → List Float → ℕ → ℕ → Pair
pair_at m field f n = pair (get_or field (own_cell m f) nan) (get_or field n nan)

-- a cell field or a face field, and the number of its mesh
pub record Field : Type 0 where
  pub number : ℕ
  pub values : List Float

abbrev pub field : ℕ → List Float → Field
field n v = record { number = n; values = v }

abbrev pub field_lent : ℕ → Slice Float → Field
field_lent n v = field n v.entry.now

-- of a field as it is lent
abbrev pub field_of : LentField → Field
field_of x = field x.number x.values.now

-- 2: each slice is as long as its records
abbrev pub grid_sizes : Counts → Grid → List Bool
grid_sizes n m =
    eqb (length m.adjacency) (2 * n.faces) ∷ eqb (length m.geometry) (11 * n.faces) ∷ eqb (length m.places) (4 * n.cells) ∷ []

abbrev pub grid_sized : Counts → Grid → Bool
grid_sized n m = every_of (grid_sizes n m)

-- what the checks establish of a mesh of so many cells and faces
pub record Coupled (m : Grid) (cells faces : ℕ) : Type 0 where
  pub adjacency : length m.adjacency ≡ 2 * faces
  pub geometry : length m.geometry ≡ 11 * faces
  pub places : length m.places ≡ 4 * cells
  pub sides : (f : ℕ) → f < faces → CellsOf cells m.adjacency f
  pub carried : (f : ℕ) → f < faces → Carried m.adjacency m.geometry m.places f
