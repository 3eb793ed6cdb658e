-- The records of a mesh and of its conditions in flat lists, and the name of each number in them. A missing whole number counts as 0, and a missing float as a NaN. Definitions only.
use Rattle.std.specs.Prelude.{List, cond, ℕ, ◌+◌, ◌*◌, eqb, get_or, Float}
use Rattle.std.specs.Float.{nan}
use Rattle.chain.specs.Pairs.{first_at, second_at}
use Rattle.vector.specs.Vector.{vector_at}
use Rattle.vector.specs.declared.Vec3.{Vec3}
use Rattle.mesh.specs.declared.Face.{Face}
use Rattle.mesh.specs.declared.Cell.{Cell}
use Rattle.mesh.specs.declared.Condition.{Condition}
use Rattle.mesh.specs.declared.Condition.TheVariants.{Absent, Fixed, ZeroGradient}

-- ---- a face

-- its two cells: the owner, and the neighbour + 1, or 0 where there is none
abbrev pub owner_at : List ℕ → ℕ → ℕ
owner_at adjacency f = first_at adjacency f

abbrev pub neighbour_at : List ℕ → ℕ → ℕ
neighbour_at adjacency f = second_at adjacency f

-- its eleven floats: centre, area vector, normal, and two distances
abbrev pub face_centre : List Float → ℕ → Vec3
face_centre geometry f = vector_at geometry (11 * f)

abbrev pub face_area : List Float → ℕ → Vec3
face_area geometry f = vector_at geometry (11 * f + 3)

abbrev pub face_normal : List Float → ℕ → Vec3
face_normal geometry f = vector_at geometry (11 * f + 6)

-- how far its centre is from its owner's, and the other side's number, +0.0 where there is no other side
abbrev pub own_distance_at : List Float → ℕ → Float
own_distance_at geometry f = get_or geometry (11 * f + 9) nan

abbrev pub other_distance_at : List Float → ℕ → Float
other_distance_at geometry f = get_or geometry (11 * f + 10) nan

abbrev pub face_at : List ℕ → List Float → ℕ → Face
face_at adjacency geometry f = record {
  owner = owner_at adjacency f;
  center = face_centre geometry f;
  area = face_area geometry f;
  normal = face_normal geometry f;
}

-- ---- a cell

-- its four floats: centre, volume
abbrev pub centre : List Float → ℕ → Vec3
centre places c = vector_at places (4 * c)

abbrev pub volume_at : List Float → ℕ → Float
volume_at places c = get_or places (4 * c + 3) nan

abbrev pub cell_at : List Float → ℕ → Cell
cell_at places c = record { center = centre places c; volume = volume_at places c }

-- the first records of its chains: of faces, and of neighbours
abbrev pub first_facing : List ℕ → ℕ → ℕ
first_facing heads c = first_at heads c

abbrev pub first_bordering : List ℕ → ℕ → ℕ
first_bordering heads c = second_at heads c

-- ---- a face's condition and link

-- the condition's code, and the link's peer + 1, or 0 where there is no link
abbrev pub code_at : List ℕ → ℕ → ℕ
code_at codes f = first_at codes f

abbrev pub peer_at : List ℕ → ℕ → ℕ
peer_at codes f = second_at codes f

-- its four floats: fixed value, translation
abbrev pub fixed_at : List Float → ℕ → Float
fixed_at values f = get_or values (4 * f) nan

abbrev pub translation_at : List Float → ℕ → Vec3
translation_at values f = vector_at values (4 * f + 1)

-- the condition that a code and its value stand for; an unknown code is refused before it is read
abbrev pub condition_of : ℕ → Float → Condition
condition_of code value = cond (eqb code 1) (Fixed value) (cond (eqb code 2) ZeroGradient Absent)

abbrev pub condition_at : List ℕ → List Float → ℕ → Condition
condition_at codes values f = condition_of (code_at codes f) (fixed_at values f)
