-- A float's units as a difference of two naturals, `hi` less `lo`, of which one is 0: so sums and distances are those of naturals, which `omega` reads.
use Rattle.std.proofs.Common.{ℕ, ◌+◌, ◌-◌, cond, List, [], ◌∷◌}
use lib.Ieee.{Float, nan, inf, fin, Format}
use Rattle.binary64.specs.Units.{count}

unfoldable pub hi : Format → Float → ℕ
hi f nan = 0
hi f (inf s) = 0
hi f (fin s m e) = cond s 0 (count f (fin s m e))

unfoldable pub lo : Format → Float → ℕ
lo f nan = 0
lo f (inf s) = 0
lo f (fin s m e) = cond s (count f (fin s m e)) 0

unfoldable pub his : Format → List Float → ℕ
his f [] = 0
his f (x ∷ xs) = hi f x + his f xs

unfoldable pub los : Format → List Float → ℕ
los f [] = 0
los f (x ∷ xs) = lo f x + los f xs

-- the distance of two naturals
abbrev pub gap : ℕ → ℕ → ℕ
gap a b = (a - b) + (b - a)
