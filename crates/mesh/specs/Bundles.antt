-- What is lent together, as the lists that its slices hold. Definitions only.
use Rattle.mesh.specs.Mesh.{Mesh, mesh, Bounds, bounds, Conditions, conditions}
use Rattle.mesh.specs.declared.lent.Mesh.{Mesh as LentMesh}
use Rattle.mesh.specs.declared.lent.Bounds.{Bounds as LentBounds}
use Rattle.mesh.specs.declared.lent.Conditions.{Conditions as LentConditions}
use Rattle.mesh.specs.declared.lent.Grid.{Grid as LentGrid}
use Rattle.mesh.specs.declared.lent.Faces.{Faces as LentFaces}

abbrev pub mesh_of : LentMesh → Mesh
mesh_of m = mesh m.counts m.adjacency.now m.geometry.now m.heads.now m.places.now m.facing.now m.bordering.now

abbrev pub bounds_of_lent : LentBounds → Bounds
bounds_of_lent k = bounds k.codes.now k.values.now

abbrev pub conditions_of : LentConditions → Conditions
conditions_of k = conditions k.number k.codes.now k.values.now

-- the parts of what is lent, the same slices
abbrev pub grid_in : LentMesh → LentGrid
grid_in m = record { counts = m.counts; adjacency = m.adjacency; geometry = m.geometry; places = m.places }

abbrev pub faces_in : LentGrid → LentFaces
faces_in m = record { counts = m.counts; adjacency = m.adjacency }

abbrev pub bounds_in : LentConditions → LentBounds
bounds_in k = record { codes = k.codes; values = k.values }
