-- The exact account of the outflows: sums of floats taken without rounding, in units of 2 ^ -1074, and how far the rounded sums are from them. Definitions only.
use Rattle.std.specs.Prelude.{List, ℕ, zero, suc, ◌+◌, ◌-◌, ◌*◌, ◌^◌, ◌≤◌, ◌<◌, T, eqb, nat_abs, ◌-ℤ◌, length, get_or, Float}
use Rattle.std.specs.Float.{nan, binary64}
use Rattle.std.specs.Float.Ieee.Scale.{finite}
use Rattle.binary64.specs.Units.{signed_count, exact_total, total_count}
use Rattle.numerics.specs.Outflow.{Faces, only, up_to, terms}

-- the flux of the face f, where it has one cell; those of all such faces below n
unfoldable pub one_cell_flux : Faces → ℕ → List Float
one_cell_flux m f = only (eqb (m.neighbour f) 0) (m.flux f)

abbrev pub one_cell_fluxes : Faces → ℕ → List Float
one_cell_fluxes m n = up_to (one_cell_flux m) n

-- the rounding bound of a cell with these terms, times 2 ^ 53: the number of terms less one (none counts 0) times the sum of their magnitudes
abbrev pub bound : List Float → ℕ
bound xs = (length xs - 1) * total_count binary64 xs

-- those of all cells below c together
unfoldable pub allowance : Faces → ℕ → ℕ → ℕ
allowance m n zero = 0
allowance m n (suc c) = allowance m n c + bound (terms m n c)

-- each cell's outflow is as near to the exact sum of its terms
abbrev pub NearTerms : Faces → ℕ → List Float → Type 0
NearTerms m n outflow =
    (c : ℕ) → c < length outflow → nat_abs (signed_count binary64 (get_or outflow c nan) -ℤ exact_total binary64 (terms m n c)) * 2 ^ 53 ≤ bound (terms m n c)

-- and all outflows together are as near to the exact flux through the faces with one cell
abbrev pub NearWhole : Faces → ℕ → List Float → Type 0
NearWhole m n outflow = nat_abs (exact_total binary64 outflow -ℤ exact_total binary64 (one_cell_fluxes m n)) * 2 ^ 53 ≤ allowance m n (length outflow)

-- the balance of the first n faces: no flux is left out of an exact sum for being infinite or no number
pub record Balanced (m : Faces) (n : ℕ) (outflow : List Float) : Type 0 where
  pub finite_fluxes : (f : ℕ) → f < n → T (finite (m.flux f))
  pub cells : NearTerms m n outflow
  pub whole : NearWhole m n outflow
