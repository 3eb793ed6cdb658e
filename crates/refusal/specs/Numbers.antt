-- The number of each reason, as docs/REFUSALS.md has it. Definitions only.
use Rattle.std.specs.Prelude.{◌≡◌, ℕ, List, [], ◌∷◌, Result, Ok, Err}
use Rattle.refusal.specs.declared.Reason.{Reason}
use Rattle.refusal.specs.declared.Reason.TheVariants.{BadSize, WrongLength, OtherMesh, BadFace, BrokenChain, BadLink}
use Rattle.refusal.specs.declared.Reason.TheVariants.{TooNear, SingularStencil, BadCoefficient, NoCondition, BadDiagonal, BadVolume, CrowdedCell, WrongDistance}
use Rattle.refusal.specs.declared.Refusal.{Refusal}
use Rattle.refusal.specs.declared.UnknownNumber.{UnknownNumber}

abbrev pub number_of : Reason → ℕ
number_of BadSize = 1
number_of WrongLength = 2
number_of OtherMesh = 3
number_of BadFace = 4
number_of BrokenChain = 5
number_of BadLink = 6
number_of TooNear = 7
number_of SingularStencil = 8
number_of BadCoefficient = 9
number_of NoCondition = 10
number_of BadDiagonal = 11
number_of BadVolume = 12
number_of CrowdedCell = 14
number_of WrongDistance = 20

-- in the order of their numbers
abbrev pub reasons : List Reason
reasons =
    BadSize
    ∷ WrongLength
    ∷ OtherMesh
    ∷ BadFace
    ∷ BrokenChain
    ∷ BadLink
    ∷ TooNear
    ∷ SingularStencil
    ∷ BadCoefficient
    ∷ NoCondition
    ∷ BadDiagonal
    ∷ BadVolume
    ∷ CrowdedCell
    ∷ WrongDistance
    ∷ []

abbrev pub refusal : Reason → ℕ → Refusal
refusal k i = record { reason = k; index = i }

-- the reason that has a number; where none has it, the number stands in the error
abbrev pub Numbered : ℕ → Result Reason UnknownNumber → Type 0
Numbered n (Ok reason) = number_of reason ≡ n
Numbered n (Err e) = (e.0 ≡ n) × ((reason : Reason) → number_of reason ≡ n → ⊥)

-- no two reasons have one number
abbrev pub NumbersDiffer : Type 0
NumbersDiffer = (a b : Reason) → number_of a ≡ number_of b → a ≡ b
