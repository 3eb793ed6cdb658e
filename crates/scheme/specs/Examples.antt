-- The examples P1 to P12 of document 01, as one table. Floats are given by their bit patterns. Definitions only.
use Rattle.refusal.specs.declared.Reason.TheVariants.{BadCoefficient}
use Rattle.std.specs.Prelude.{◌≡◌, List, [], ◌∷◌, ℕ, ◌+◌, ◌*◌, ◌^◌, ◌≤◌, pos, nat_abs, ◌-ℤ◌, Float, Ok, Err}
use Rattle.std.specs.Float.{binary64}
use Rattle.std.specs.Float.Ieee.{of_bits}
use Rattle.binary64.specs.Numbers.{zero64}
use Rattle.binary64.specs.Root.{root}
use Rattle.binary64.specs.Units.{exact_total}
use Rattle.vector.specs.Vector.{vec}
use Rattle.vector.specs.declared.Vec3.{Vec3}
use Rattle.coupling.specs.Face.{pair, distances, internal_coefficient}
use Rattle.coupling.specs.declared.Span.{Span}
use Rattle.numerics.specs.Outflow.{faces_of, terms, outflows}
use Rattle.balance.specs.Balance.{bound}
use Rattle.corrector.specs.Correction.{Correcting, correcting, corrected_flux_at}

abbrev pub float : ℕ → Float
float b = of_bits binary64 b

-- 0, 0.5, 1, 1.5, 2, 3, 4, 6 and 2 ^ -53
abbrev pub naught : ℕ
naught = 0x0000000000000000

abbrev pub half : ℕ
half = 0x3fe0000000000000

abbrev pub one : ℕ
one = 0x3ff0000000000000

abbrev pub one_and_half : ℕ
one_and_half = 0x3ff8000000000000

abbrev pub two : ℕ
two = 0x4000000000000000

abbrev pub three : ℕ
three = 0x4008000000000000

abbrev pub four : ℕ
four = 0x4010000000000000

abbrev pub six : ℕ
six = 0x4018000000000000

abbrev pub tiny : ℕ
tiny = 0x3ca0000000000000

abbrev pub point : ℕ → ℕ → ℕ → Vec3
point x y z = vec (float x) (float y) (float z)

-- unit cubes side by side: the face between them, and the centres of the two
abbrev pub between_cubes : Span
between_cubes = record { center = point one half half; area = point one naught naught; owner = point half half half; other = point one_and_half half half }

-- meshes of one face, whose owner is cell 0: between the cells 0 and 1; with a fixed value, the code 1; and with a zero gradient, the code 2; no face is linked
abbrev pub one_face : ℕ → ℕ → Float → Float → Float → List Float → Correcting
one_face neighbour code value p k corrections =
    correcting (0 ∷ neighbour ∷ []) (code ∷ 0 ∷ []) (value ∷ zero64 ∷ zero64 ∷ zero64 ∷ []) (p ∷ []) (k ∷ []) corrections

abbrev pub internal_face : Float → Float → Float → Float → Correcting
internal_face p k other own = one_face 2 0 zero64 p k (own ∷ other ∷ [])

abbrev pub fixed_face : Float → Float → Float → Float → Correcting
fixed_face p k value own = one_face 0 1 value p k (own ∷ [])

abbrev pub free_face : Float → Float → Float → Correcting
free_face p k own = one_face 0 2 zero64 p k (own ∷ [])

pub data Example : Type 0 where
  -- the root of a number
  root_is : ℕ → ℕ → Example
  -- the coefficient of a face with these responses
  coefficient_is : Span → ℕ → ℕ → ℕ → Example
  -- the corrected flux of a face with two cells: predicted flux, coefficient, the neighbour's correction and the owner's
  flux_is : ℕ → ℕ → ℕ → ℕ → ℕ → Example
  -- the same of an unlinked face with a fixed value
  fixed_is : ℕ → ℕ → ℕ → ℕ → ℕ → Example
  -- with this coefficient a face with two cells is refused as BadCoefficient, whatever else it has
  coefficient_refused : ℕ → Example
  -- with this coefficient an unlinked zero-gradient face keeps its flux, whatever that is
  coefficient_unread : ℕ → Example
  -- these fluxes out of one cell: their outflow, their exact sum in units of 2 ^ -1074, and the one within the bound of the other
  outflow_is : List ℕ → List Float → ℕ → ℕ → Example

abbrev pub Holds : Example → Type 0
Holds (root_is x r) = root (float x) ≡ float r
Holds (coefficient_is s a b k) = internal_coefficient s (distances s) (pair (float a) (float b)) ≡ Ok (float k)
Holds (flux_is p k other own v) = corrected_flux_at (internal_face (float p) (float k) (float other) (float own)) 0 ≡ Ok (float v)
Holds (fixed_is p k value own v) = corrected_flux_at (fixed_face (float p) (float k) (float value) (float own)) 0 ≡ Ok (float v)
Holds (coefficient_refused k) = (p other own : Float) → corrected_flux_at (internal_face p (float k) other own) 0 ≡ Err BadCoefficient
Holds (coefficient_unread k) = (p own : Float) → corrected_flux_at (free_face p (float k) own) 0 ≡ Ok p
Holds (outflow_is adjacency fluxes o s) =
    (outflows 1 adjacency fluxes ≡ (float o ∷ []))
    × (exact_total binary64 (terms (faces_of adjacency fluxes) 3 0) ≡ pos s)
    × (nat_abs (exact_total binary64 (float o ∷ []) -ℤ pos s) * 2 ^ 53 ≤ bound (terms (faces_of adjacency fluxes) 3 0))

abbrev pub AllHold : List Example → Type 0
AllHold [] = Unit {0}
AllHold (e ∷ es) = Holds e × AllHold es

-- P1 to P12, in their order
abbrev pub table : List Example
table =
    root_is naught naught
    ∷ root_is four two
    ∷ root_is two 0x3ff6a09e667f3bcd
    ∷ root_is 0x0000000000000001 0x1e60000000000000
    ∷ root_is 0x7fefffffffffffff 0x5fefffffffffffff
    ∷ root_is 0xbff0000000000000 0x7ff8000000000000
    ∷ coefficient_is between_cubes half half half
    ∷ flux_is two half three one one
    ∷ fixed_is naught two one four six
    ∷ coefficient_refused naught
    ∷ coefficient_unread naught
    ∷ outflow_is (0 ∷ 0 ∷ 0 ∷ 0 ∷ 0 ∷ 0 ∷ []) (float one ∷ float tiny ∷ float tiny ∷ []) one (2 ^ 1074 + 2 ^ 1022)
    ∷ []

abbrev pub Examples : Type 0
Examples = AllHold table
