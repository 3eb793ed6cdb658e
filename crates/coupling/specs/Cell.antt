-- A cell: the inverse of its momentum diagonal, its corrected velocity, and its divergence, in the Rust's order of operations. Definitions only.
use Rattle.refusal.specs.declared.Reason.TheVariants.{BadCoefficient, BadDiagonal, BadVolume}
use Rattle.mesh.specs.Answers.{Outcome}
use Rattle.std.specs.Prelude.{Bool, ◌&&◌, cond, Float, Ok, Err}
use Rattle.binary64.specs.Numbers.{one64, is_finite, is_usable, magnitude, ◌⊘◌}
use Rattle.vector.specs.Vector.{difference, scaled}
use Rattle.vector.specs.declared.Vec3.{Vec3}

-- 1 / value, infinite or not; BadDiagonal where the value is not finite or is at most 0
unfoldable pub inverse_diagonal : Float → Outcome
inverse_diagonal value = cond (is_usable value) (Ok (one64 ⊘ value)) (Err BadDiagonal)

-- velocity − gradient × response
unfoldable pub corrected_velocity : Vec3 → Float → Vec3 → Vec3
corrected_velocity velocity response gradient = difference velocity (scaled gradient response)

abbrev pub finite3 : Vec3 → Bool
finite3 v = is_finite v.x && is_finite v.y && is_finite v.z

-- a corrected velocity stands where the response is finite and above 0 and the velocity is finite; else it is BadDiagonal
unfoldable pub stands : Float → Vec3 → Bool
stands response v = is_usable response && finite3 v

-- |outflow / volume|; BadVolume where the volume is not finite or is at most 0, then BadCoefficient where the divergence is not finite
unfoldable pub divergence : Float → Float → Outcome
divergence outflow volume =
    let d = magnitude (outflow ⊘ volume) in
    cond (is_usable volume) (cond (is_finite d) (Ok d) (Err BadCoefficient)) (Err BadVolume)
