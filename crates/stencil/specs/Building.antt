-- A stencil as it is built: the records so far, in the slices that they are handed out in, and the normal matrix of the cell under way. Definitions only.
use Rattle.std.specs.Prelude.{List, [], ◌∷◌, cond, ℕ, ◌+◌, ◌*◌, ltb, set, Float, Result, Ok, Err}
use Rattle.refusal.specs.Numbers.{refusal}
use Rattle.refusal.specs.declared.Reason.TheVariants.{BadSize}
use Rattle.refusal.specs.declared.Refusal.{Refusal}
use Rattle.vector.specs.declared.Vec3.{Vec3}
use Rattle.matrix.specs.declared.Normal.{Normal}
use Rattle.numerics.specs.Slices.{from_self, from_value, from_cell}
use Rattle.stencil.specs.declared.inner.building.Source.{Source}
use Rattle.stencil.specs.declared.inner.building.Source.TheVariants.{Own, Fixed, Cell}

pub record Building : Type 0 where
  pub used : ℕ
  pub equations : List ℕ
  pub weights : List Float
  pub normal : Normal

abbrev pub building : ℕ → List ℕ → List Float → Normal → Building
building u e w n = record { used = u; equations = e; weights = w; normal = n }

-- the building with another matrix
abbrev pub with_normal : Building → Normal → Building
with_normal b n = building b.used b.equations b.weights n

-- what a finished cell hands on: the records, and the inverse of its normal matrix
pub record Solved : Type 0 where
  pub used : ℕ
  pub equations : List ℕ
  pub weights : List Float
  pub inverse : Normal

abbrev pub solved : ℕ → List ℕ → List Float → Normal → Solved
solved u e w i = record { used = u; equations = e; weights = w; inverse = i }

abbrev pub with_inverse : Building → Normal → Solved
with_inverse b i = solved b.used b.equations b.weights i

-- ---- steps

-- a refusal, or what it goes on with
abbrev pub Course : Type 0 → Type 0
Course A = Result A Refusal

abbrev pub and_then : {A B : Type 0} → Course A → (A → Course B) → Course B
and_then (Err e) g = Err e
and_then (Ok b) g = g b

-- one step for each item of a list
abbrev pub over_all : (ℕ → Building → Course Building) → List ℕ → Building → Course Building
over_all step [] b = Ok b
over_all step (i ∷ is) b = and_then (step i b) (over_all step is)

-- ---- an equation appended

-- where its other value comes from, as it is lent
abbrev pub source_number : Source → ℕ
source_number Own = from_self
source_number Fixed = from_value
source_number (Cell c) = from_cell c

-- its source as it is lent, the coefficient of the difference, and the fixed value
pub record Equation : Type 0 where
  pub source : ℕ
  pub coefficient : Vec3
  pub value : Float

abbrev pub equation : ℕ → Vec3 → Float → Equation
equation s k v = record { source = s; coefficient = k; value = v }

-- the record u, which counts as u + 1: the source and the next record, u + 2; the coefficient and the value
unfoldable pub record_numbers : List ℕ → ℕ → Equation → List ℕ
record_numbers l u e = set (set l (2 * u) e.source) (2 * u + 1) (u + 2)

unfoldable pub record_weights : List Float → ℕ → Equation → List Float
record_weights l u e =
    set (set (set (set l (4 * u) e.coefficient.x) (4 * u + 1) e.coefficient.y) (4 * u + 2) e.coefficient.z)
    (4 * u + 3) e.value

abbrev pub appended : Equation → Building → Building
appended e b =
    building (b.used + 1) (record_numbers b.equations b.used e) (record_weights b.weights b.used e) b.normal

-- an equation is appended where a record is left for it
unfoldable pub push : ℕ → Equation → Building → Course Building
push records e b = cond (ltb b.used records) (Ok (appended e b)) (Err (refusal BadSize 0))
