-- What a call is lent: a mesh and the conditions and links of its faces; and what the checks establish of them. Definitions only.
use Rattle.std.specs.Prelude.{◌≡◌, List, ℕ, ◌*◌, length}
use Rattle.chain.specs.Chains.{walk}
use Rattle.mesh.specs.Mesh.{Mesh, Bounds, Conditions, bounds_of, Sized, Sound}
use Rattle.mesh.specs.Records.{first_facing}
use Rattle.mesh.specs.Bundles.{mesh_of, bounds_of_lent}
use Rattle.mesh.specs.declared.lent.Mesh.{Mesh as LentMesh}
use Rattle.mesh.specs.declared.lent.Bounds.{Bounds as LentBounds}
use Rattle.stencil.specs.Ring.{Ways, ways}

pub record Lent : Type 0 where
  pub mesh : Mesh
  pub bounds : Bounds

abbrev pub lent_of : Mesh → Conditions → Lent
lent_of m k = record { mesh = m; bounds = bounds_of k }

-- of what is lent
abbrev pub lent_of_lent : LentMesh → LentBounds → Lent
lent_of_lent m k = record { mesh = mesh_of m; bounds = bounds_of_lent k }

-- the faces of the cell c, in the order of their chain
abbrev pub cell_faces : Mesh → ℕ → List ℕ
cell_faces m c = walk m.facing m.counts.facings (first_facing m.heads c)

-- which cells are neighbours
abbrev pub web_of : Mesh → Ways
web_of m = ways m.counts m.heads m.bordering

-- what the checks establish
pub record Buildable (l : Lent) : Type 0 where
  pub sized : Sized l.mesh
  pub codes : length l.bounds.codes ≡ 2 * l.mesh.counts.faces
  pub values : length l.bounds.values ≡ 4 * l.mesh.counts.faces
  pub sound : Sound l.mesh l.bounds.codes
