-- What this crate's structs hold, as the lists that their slices hold, and what a call that writes these keeps. Definitions only.
use Rattle.std.specs.Prelude.{◌≡◌, ℕ, Ok, Err}
use Rattle.numerics.specs.Slices.{Slices, slices}
use Rattle.matrix.specs.declared.Normal.{Normal}
use Rattle.mesh.specs.Answers.{Answer}
use Rattle.stencil.specs.Lent.{Lent, lent_of_lent}
use Rattle.stencil.specs.Ring.{Ways, ways}
use Rattle.stencil.specs.Building.{Equation, equation, source_number, Building, building, Solved, with_inverse, Course}
use Rattle.stencil.specs.Stencil.{Stencil}
use Rattle.stencil.specs.declared.lent.StencilMut.{StencilMut}
use Rattle.stencil.specs.declared.inner.build.Domain.{Domain}
use Rattle.stencil.specs.declared.inner.ring.Ring.{Ring}
use Rattle.stencil.specs.declared.inner.building.Equation.{Equation as LentEquation}
use Rattle.stencil.specs.declared.inner.building.Building.{Building as LentBuilding}

-- ---- a stencil's slices

abbrev pub slices_in : StencilMut → Slices
slices_in s = slices s.starts.now s.equations.now s.weights.now s.inverses.now

-- the same slices with as much room
pub record Same (a b : StencilMut) : Type 0 where
  pub records : b.records ≡ a.records
  pub starts : b.starts.ghost_name ≡ a.starts.ghost_name
  pub equations : b.equations.ghost_name ≡ a.equations.ghost_name
  pub weights : b.weights.ghost_name ≡ a.weights.ghost_name
  pub inverses : b.inverses.ghost_name ≡ a.inverses.ghost_name

-- ---- a mesh that is built on, and which of its cells are neighbours: what is lent of it

abbrev pub lent_in : Domain → Lent
lent_in l = lent_of_lent l.mesh l.bounds

abbrev pub ways_of : Ring → Ways
ways_of w = ways w.counts w.heads.now w.bordering.now

-- ---- a stencil under way

abbrev pub equation_in : LentEquation → Equation
equation_in e = equation (source_number e.source) e.coefficient e.value

abbrev pub building_in : LentBuilding → Building
building_in b = building b.used b.equations.now b.weights.now b.normal

-- the same slices with as much room
pub record SameRecords (a b : LentBuilding) : Type 0 where
  pub records : b.records ≡ a.records
  pub equations : b.equations.ghost_name ≡ a.equations.ghost_name
  pub weights : b.weights.ghost_name ≡ a.weights.ghost_name

-- what a step that answers so, and leaves this building, came to
abbrev pub course_of : Answer → LentBuilding → Course Building
course_of (Err r) b = Err r
course_of (Ok u) b = Ok (building_in b)

-- and a cell, by the inverse of its normal matrix
abbrev pub finish_of : Course Normal → LentBuilding → Course Solved
finish_of (Err r) b = Err r
finish_of (Ok i) b = Ok (with_inverse (building_in b) i)

-- the cells so far: how many records they use, in these slices
abbrev pub whole_of : Course ℕ → StencilMut → Course Stencil
whole_of (Err r) s = Err r
whole_of (Ok used) s = Ok (record { used = used; slices = slices_in s })
