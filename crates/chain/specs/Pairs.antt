-- Records of two whole numbers in a flat list. A missing number counts as 0. Definitions only.
use Rattle.std.specs.Prelude.{List, ℕ, ◌+◌, ◌*◌, get_or}

-- the two numbers of record i of two; mesh/specs/Records.antt has the names of a face's, and Chains.antt those of a chain's record
abbrev pub first_at : List ℕ → ℕ → ℕ
first_at s i = get_or s (2 * i) 0

abbrev pub second_at : List ℕ → ℕ → ℕ
second_at s i = get_or s (2 * i + 1) 0
