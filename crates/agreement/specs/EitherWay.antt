-- The correction into a second slice and the correction in one, lent the same. Definitions only.
use Rattle.mesh.specs.Answers.{Answer, accepted}
use Rattle.std.specs.Prelude.{◌≡◌, List, ℕ, length, Float}
use Rattle.mesh.specs.Mesh.{Conditions}
use Rattle.mesh.specs.declared.Counts.{Counts}
use Rattle.simple.specs.Corrected.{Fields, correction_checks, CorrectionCall}

-- r, `old` and `out` are of the call with a second slice, s, `predicted` and `flux` of the call with one: the same answer and the same fluxes, save that where a check refuses each slice is as it was
pub record Same (checks : Answer) (old predicted : List Float) (r s : Answer) (out flux : List Float) : Type 0 where
  pub answer : s ≡ r
  pub contents : checks ≡ accepted → flux ≡ out
  pub untouched : (checks ≡ accepted → ⊥) → (out ≡ old) × (flux ≡ predicted)

-- both calls on the same mesh, conditions and fields, the second slice as long as the predicted flux
abbrev pub EitherWay : Type 0
EitherWay =
    (n : Counts) (adjacency : List ℕ) (k : Conditions) (l : Fields) (old out flux : List Float) (r s : Answer) → length old ≡ length l.predicted.values
    → CorrectionCall n adjacency k l old r out → CorrectionCall n adjacency k l l.predicted.values s flux
    → Same (correction_checks n adjacency k l (length old)) old l.predicted.values r s out flux
