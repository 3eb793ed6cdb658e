-- How a sound chain goes on by a record. Assumes nothing.
use Rattle.std.proofs.Common.{◌≡◌, ℕ, ◌+◌, ◌-◌, ◌*◌, ◌/◌, ◌<◌, List, [], ◌∷◌, length, arith}
use Rattle.chain.specs.Chains.{item_of, next_of}
use Rattle.chain.specs.Sound.{Sound, items_from}
use Rattle.chain.proofs.Chains.{Onward, onward, walk_over}

pub record Turn (l : List ℕ) (r : ℕ) : Type 0 where
  pub present : 2 * (r - 1) + 1 < length l
  pub cons : items_from l r ≡ item_of l r ∷ items_from l (next_of l r)
  pub rest : Sound l (next_of l r)

pub turn : {l : List ℕ} {r : ℕ} → Sound l r → (r ≡ 0 → ⊥) → Turn l r
turn {l} {r} s z =
    let o : Onward l (length l / 2) s.limit r = onward _ _ _ _ s.chain z in
    record { present = omega (arith, o.present, z); cons = o.cons; rest = record { limit = s.limit; chain = o.rest } }

pub over : (l : List ℕ) (r : ℕ) → r ≡ 0 → items_from l r ≡ []
over l r e = walk_over l (length l / 2) r e
