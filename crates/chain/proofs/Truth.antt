-- Truth values, alone and in lists. Assumes nothing.
use mathlib.Core.Path.{◌≡◌, refl}
use mathlib.Core.List.{List, [], ◌∷◌}
use mathlib.Core.Bool.{Bool, true, false, ◌&&◌, ◌||◌}
use Prim.Native.Nat.{ℕ, zero, suc}
use lib.ListN.{get_or}
use Rattle.chain.specs.Search.{all_after, every_of, any_after, some_of}

pub and_true : (a b : Bool) → (a && b) ≡ true → (a ≡ true) × (b ≡ true)
and_true true b h = (refl, h)
and_true false b h = (h, cc)

pub or_false : (a b : Bool) → (a || b) ≡ false → (a ≡ false) × (b ≡ false)
or_false true b h = (h, cc)
or_false false b h = (refl, h)

-- what holds of the first and of each after it holds at every place
put : {t : Bool} (a : Bool) (bs : List Bool) → a ≡ t → ((k : ℕ) → get_or bs k t ≡ t) → (k : ℕ) → get_or (a ∷ bs) k t ≡ t
put a bs e h zero = e
put a bs e h (suc k) = h k

-- where every one of a list holds, the one at k does
all_at : (b : Bool) (bs : List Bool) → all_after b bs ≡ true → (b ≡ true) × ((k : ℕ) → get_or bs k true ≡ true)
all_at b [] h = (h, λ k. refl)
all_at b (a ∷ bs) h =
    let w = all_at (b && a) bs h in
    let v = and_true b a w.0 in
    (v.0, put a bs v.1 w.1)

pub every_at : (bs : List Bool) → every_of bs ≡ true → (k : ℕ) → get_or bs k true ≡ true
every_at bs h = (all_at true bs h).1

-- where none of a list holds, the one at k does not
any_at : (b : Bool) (bs : List Bool) → any_after b bs ≡ false → (b ≡ false) × ((k : ℕ) → get_or bs k false ≡ false)
any_at b [] h = (h, λ k. refl)
any_at b (a ∷ bs) h =
    let w = any_at (b || a) bs h in
    let v = or_false b a w.0 in
    (v.0, put a bs v.1 w.1)

pub none_at : (bs : List Bool) → some_of bs ≡ false → (k : ℕ) → get_or bs k false ≡ false
none_at bs h = (any_at false bs h).1
