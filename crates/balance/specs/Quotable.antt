-- What the limit of 26 faces to a cell makes of the balance: a bound with 25 for every cell, which can be quoted without counting its terms. Definitions only.
use Rattle.std.specs.Prelude.{List, ℕ, zero, suc, ◌+◌, ◌*◌, ◌^◌, ◌≤◌, ◌<◌, nat_abs, ◌-ℤ◌, length, get_or, Float}
use Rattle.std.specs.Float.{nan, binary64}
use Rattle.binary64.specs.Units.{signed_count, exact_total, total_count}
use Rattle.numerics.specs.Outflow.{Faces, terms}
use Rattle.balance.specs.Balance.{one_cell_fluxes}

-- the largest multiplier of a bound: the most terms that a cell can have, less one
abbrev pub largest_multiplier : ℕ
largest_multiplier = 25

-- the magnitudes of the terms of all cells below c together
unfoldable pub magnitudes : Faces → ℕ → ℕ → ℕ
magnitudes m n zero = 0
magnitudes m n (suc c) = magnitudes m n c + total_count binary64 (terms m n c)

-- of each cell, and of all together: what the outflow is off by, times 2 ^ 53, is at most 25 times the magnitudes
pub record Quotable (m : Faces) (n : ℕ) (outflow : List Float) : Type 0 where
  pub cells :
      (c : ℕ) → c < length outflow
      → nat_abs (signed_count binary64 (get_or outflow c nan) -ℤ exact_total binary64 (terms m n c)) * 2 ^ 53 ≤ largest_multiplier * total_count binary64 (terms m n c)
  pub whole :
      nat_abs (exact_total binary64 outflow -ℤ exact_total binary64 (one_cell_fluxes m n)) * 2 ^ 53 ≤ largest_multiplier * magnitudes m n (length outflow)
