-- A reason is read back from its number. Assumes nothing.
use mathlib.Core.Path.{◌≡◌, refl, sym, ap, ◌∙◌}
use mathlib.Core.List.{List, [], ◌∷◌}
use mathlib.Core.Bool.{cond}
use Prim.Native.Nat.{ℕ}
use lib.Dec.{eqb}
use Rattle.refusal.specs.declared.Reason.{Reason}
use Rattle.refusal.specs.declared.Reason.TheVariants.{BadSize, WrongLength, OtherMesh, BadFace, BrokenChain, BadLink}
use Rattle.refusal.specs.declared.Reason.TheVariants.{TooNear, SingularStencil, BadCoefficient, NoCondition, BadDiagonal, BadVolume, CrowdedCell, WrongDistance}
use Rattle.refusal.specs.Numbers.{number_of, reasons, NumbersDiffer}

-- the first of the reasons that has the number
with_number : ℕ → List Reason → Reason
with_number n [] = BadSize
with_number n (r ∷ rs) = cond (eqb n (number_of r)) r (with_number n rs)

back : (reason : Reason) → with_number (number_of reason) reasons ≡ reason
unfolding with_number
back BadSize = refl
back WrongLength = refl
back OtherMesh = refl
back BadFace = refl
back BrokenChain = refl
back BadLink = refl
back TooNear = refl
back SingularStencil = refl
back BadCoefficient = refl
back NoCondition = refl
back BadDiagonal = refl
back BadVolume = refl
back CrowdedCell = refl
back WrongDistance = refl

pub numbers_differ : NumbersDiffer
numbers_differ a b e = sym (back a) ∙ ap (λ n. with_number n reasons) e ∙ back b
