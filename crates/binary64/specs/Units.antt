-- A float as a whole number of the format's smallest positive value, which is 2 ^ -1074 in binary64, and sums of floats, rounded and exact. Definitions only.
use Rattle.std.specs.Prelude.{◌≡◌, ℕ, ◌+◌, ◌*◌, ◌/◌, ◌^◌, Bool, cond, T, ◌⊎◌, List, [], ◌∷◌, ℤ, pos, ◌+ℤ◌, neg_ℤ, Float}
use Rattle.std.specs.Float.{nan, inf, fin, Format}
use Rattle.std.specs.Float.Ieee.{low, up, down, add, neg, fits}
use Rattle.std.specs.Float.Ieee.Scale.{finite}

-- how many smallest values a finite float is in magnitude: exactly, where it fits (`CountIsExact`)
unfoldable pub count : Format → Float → ℕ
count f nan = 0
count f (inf s) = 0
count f (fin s m e) = m * up e * 2 ^ low f / down e

-- the same with its sign
unfoldable pub signed_count : Format → Float → ℤ
unfolding count
signed_count f nan = pos 0
signed_count f (inf s) = pos 0
signed_count f (fin s m e) = cond s (neg_ℤ (pos (count f (fin s m e)))) (pos (count f (fin s m e)))

-- ---- sums

-- the terms added to s one after the other, each sum rounded
unfoldable pub total : Format → Float → List Float → Float
total f s [] = s
total f s (x ∷ xs) = total f (add f s x) xs

-- the exact sum of the terms, and that of their magnitudes, in smallest values
unfoldable pub exact_total : Format → List Float → ℤ
exact_total f [] = pos 0
exact_total f (x ∷ xs) = signed_count f x +ℤ exact_total f xs

unfoldable pub total_count : Format → List Float → ℕ
total_count f [] = 0
total_count f (x ∷ xs) = count f x + total_count f xs

abbrev pub AllFit : Format → List Float → Type 0
AllFit f [] = Unit {0}
AllFit f (x ∷ xs) = T (fits f x) × AllFit f xs

abbrev pub AllFinite : List Float → Type 0
AllFinite [] = Unit {0}
AllFinite (x ∷ xs) = T (finite x) × AllFinite xs

-- ---- signs

-- +0.0 or -0.0
abbrev pub Zero : Float → Type 0
Zero x = (s : Bool) × (x ≡ fin s 0 (pos 0))

-- the same float, a zero's sign aside
abbrev pub Alike : Float → Float → Type 0
Alike u v = (u ≡ v) ⊎ (Zero u × Zero v)

-- each the other negated, a zero's sign aside
abbrev pub Opposite : Float → Float → Type 0
Opposite u v = Alike u (neg v)
