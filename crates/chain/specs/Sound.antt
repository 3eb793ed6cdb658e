-- A chain of records that ends, and its items. Definitions only.
use Rattle.std.specs.Prelude.{List, ℕ, ◌/◌, length}
use Rattle.chain.specs.Chains.{Chain, walk}

-- the chain from the record r on ends, of all the records there are with items below some limit
pub record Sound (l : List ℕ) (r : ℕ) : Type 0 where
  pub limit : ℕ
  pub chain : Chain l (length l / 2) limit r

abbrev pub items_from : List ℕ → ℕ → List ℕ
items_from l r = walk l (length l / 2) r
