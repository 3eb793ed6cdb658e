-- Chains of records of two numbers, an item and the next record. Records count from 1, and 0 ends a chain. Definitions only.
use Rattle.std.specs.Prelude.{◌≡◌, List, [], ◌∷◌, Bool, true, not, ◌&&◌, ◌||◌, cond, ℕ, zero, suc, ◌+◌, ◌-◌, ◌/◌, ◌≤◌, ◌<◌, eqb, leb, ltb, length, get_or, Option, None, Some}
use Rattle.chain.specs.Pairs.{first_at, second_at}
use Rattle.chain.specs.Search.{lowest_where}
use Rattle.chain.specs.declared.Form.{Form}
use Rattle.chain.specs.declared.Form.TheVariants.{Single, First, Second}

abbrev pub item_of : List ℕ → ℕ → ℕ
item_of l r = first_at l (r - 1)

abbrev pub next_of : List ℕ → ℕ → ℕ
next_of l r = second_at l (r - 1)

-- the step at a record r above 0 of `records` records: broken where the record is missing or its item is not below the limit
unfoldable pub step_of : List ℕ → ℕ → ℕ → ℕ → Option ℕ
step_of l records limit r = cond (leb r records && ltb (item_of l r) limit) (Some (next_of l r)) None

-- whether the chain from the record r on ends within `left` records, each of them among the `records` there are, with an item below the limit
unfoldable pub ends : List ℕ → ℕ → ℕ → ℕ → ℕ → Bool
ends l records limit zero r = eqb r 0
ends l records limit (suc left) r = cond (eqb r 0) true (leb r records && (ltb (item_of l r) limit && ends l records limit left (next_of l r)))

-- the first record of a cell's chain, 0 where the cell is missing, and how many cells there are
abbrev pub head_at : Form → List ℕ → ℕ → ℕ
head_at Single heads cell = get_or heads cell 0
head_at First heads cell = first_at heads cell
head_at Second heads cell = second_at heads cell

abbrev pub cell_count : Form → List ℕ → ℕ
cell_count Single heads = length heads
cell_count First heads = length heads / 2
cell_count Second heads = length heads / 2

-- 5: a cell's chain is broken, or has no end within the number of records
unfoldable pub broken_cell : ℕ → List ℕ → Form → List ℕ → ℕ → Bool
broken_cell limit l form heads cell = not (ends l (length l / 2) limit (length l / 2) (head_at form heads cell))

abbrev pub lowest_broken : ℕ → List ℕ → Form → List ℕ → Option ℕ
lowest_broken limit l form heads = lowest_where (broken_cell limit l form heads) (cell_count form heads)

-- ---- records in order: no chain of theirs is broken, and no walk is needed to know

-- the record i, from 0, has an item below the limit, and ends its chain or leads to a later record
unfoldable pub leads_on : ℕ → List ℕ → ℕ → Bool
leads_on limit l i = ltb (first_at l i) limit && (eqb (second_at l i) 0 || (ltb (i + 1) (second_at l i) && leb (second_at l i) (length l / 2)))

-- what is known where every record does, and where no cell's first record is missing
abbrev pub AllLeadOn : Bool → ℕ → List ℕ → Type 0
AllLeadOn b limit l = b ≡ true → (i : ℕ) → i < length l / 2 → leads_on limit l i ≡ true

abbrev pub HeadsWithin : Bool → ℕ → Form → List ℕ → Type 0
HeadsWithin b records form heads = b ≡ true → (cell : ℕ) → cell < cell_count form heads → head_at form heads cell ≤ records

-- ---- the chain as a list

-- the items of the chain from the record r on, n of them at most
unfoldable pub walk : List ℕ → ℕ → ℕ → List ℕ
walk l zero r = []
walk l (suc n) r = cond (eqb r 0) [] (item_of l r ∷ walk l n (next_of l r))

-- the records themselves
unfoldable pub trail : List ℕ → ℕ → ℕ → List ℕ
trail l zero r = []
trail l (suc n) r = cond (eqb r 0) [] (r ∷ trail l n (next_of l r))

-- the record r stands in a sound chain: it ends within the `records` records that there are, with items below the limit
pub record Chain (l : List ℕ) (records limit r : ℕ) : Type 0 where
  pub sound : ends l records limit records r ≡ true
