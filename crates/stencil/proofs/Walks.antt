-- The chain of a cell as the list of its items: it ends, and each item is below the limit. Assumes nothing.
use Rattle.std.specs.Prelude.{Option, None, Some}
use mathlib.Core.Path.{◌≡◌}
use mathlib.Core.List.{List, [], ◌∷◌}
use Prim.Native.Nat.{ℕ, zero, suc, ◌*◌, ◌-◌, ◌/◌, ◌<◌, ◌≤◌, zero-le}
use native.Mathlib.Omega.{arith}
use lib.Dec.{eqb-suc-zero}
use lib.ListN.{length}
use Rattle.chain.specs.Chains.{walk, next_of, Chain}
use Rattle.chain.specs.Sound.{Sound}
use Rattle.chain.proofs.Chains.{onward}

pub sound_in : {l : List ℕ} {n limit r : ℕ} → length l ≡ 2 * n → Chain l n limit r → Sound l r
sound_in {l} {n} {limit} {r} e c =
    let half : length l / 2 ≡ n = omega arith in
    record { limit = limit; chain = rw half c }

-- every item of a list is below the limit
abbrev pub Bounded : ℕ → List ℕ → Type 0
Bounded limit [] = 0 ≤ limit
Bounded limit (i ∷ is) = (i < limit) × Bounded limit is

pub walk_bounded : (l : List ℕ) (records limit n r : ℕ) → Chain l records limit r → Bounded limit (walk l n r)
unfolding walk
walk_bounded l records limit zero r c = zero-le
walk_bounded l records limit (suc n) zero c = zero-le
walk_bounded l records limit (suc n) (suc r) c =
    let z : suc r ≡ 0 → ⊥ = λ e. omega arith in
    let o = onward l records limit (suc r) c z in
    rw (eqb-suc-zero r) (o.below, walk_bounded l records limit n (next_of l (suc r)) o.rest)

-- the first of them
pub first_below : {limit i : ℕ} {l rest : List ℕ} → Bounded limit l → l ≡ i ∷ rest → i < limit
first_below b e = (rw e at b).0

-- how far a search among n is from its end, by the next that it found
abbrev pub left : ℕ → Option ℕ → ℕ
left n None = 0
left n (Some d) = n - d
