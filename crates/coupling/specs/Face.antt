-- A face between two cells, or between a cell and what stands beyond it: the coefficient of its pressure difference, and its predicted flux, in the Rust's order of operations. Definitions only.
use Rattle.refusal.specs.declared.Reason.TheVariants.{TooNear, BadCoefficient}
use Rattle.mesh.specs.Answers.{Outcome}
use Rattle.std.specs.Prelude.{cond, Float, Ok, Err}
use Rattle.binary64.specs.Numbers.{one64, is_finite, is_usable, is_far, ◌⊕◌, ◌⊖◌, ◌⊗◌, ◌⊘◌}
use Rattle.vector.specs.Vector.{dot, norm_squared, norm, sum, difference, scaled}
use Rattle.vector.specs.declared.Vec3.{Vec3}
use Rattle.coupling.specs.declared.Pair.{Pair}
use Rattle.coupling.specs.declared.Side.{Side}
use Rattle.coupling.specs.declared.Span.{Span}

abbrev pub pair : Float → Float → Pair
pair a b = record { owner = a; other = b }

abbrev pub side : Vec3 → Vec3 → Float → Float → Side
side v g p r = record { velocity = v; gradient = g; pressure = p; response = r }

-- from the owner's centre to the other's
abbrev pub across : Span → Vec3
across s = difference s.other s.owner

-- how far the face's centre is from each
unfoldable pub distances : Span → Pair
distances s = pair (norm (difference s.center s.owner)) (norm (difference s.center s.other))

-- the value at the face of a field that is v on its two sides: each side's counts by the distance of the other side
unfoldable pub interpolated : Pair → Pair → Float
interpolated d v = (d.other ⊗ v.owner ⊕ d.owner ⊗ v.other) ⊘ (d.owner ⊕ d.other)

-- response × (area · d) / d²
unfoldable pub projected : Float → Vec3 → Vec3 → Float
projected response area d = response ⊗ dot area d ⊘ norm_squared d

-- BadCoefficient where a coefficient is not finite or is at most 0
unfoldable pub positive : Float → Outcome
positive k = cond (is_usable k) (Ok k) (Err BadCoefficient)

-- of a face with two cells; TooNear where d² or the sum of the two distances is not finite or is at most EPS
unfoldable pub internal_coefficient : Span → Pair → Pair → Outcome
internal_coefficient s d r =
    cond (is_far (norm_squared (across s)))
    (cond (is_far (d.owner ⊕ d.other)) (positive (projected (interpolated d r) s.area (across s))) (Err TooNear))
    (Err TooNear)

-- of a linked face, whose other centre is that of the peer's owner, translated back; no test of a distance
unfoldable pub linked_coefficient : Span → Pair → Pair → Outcome
linked_coefficient s d r = positive (projected (interpolated d r) s.area (across s))

-- of a fixed-value face, whose centre is `away` from the owner's
unfoldable pub fixed_coefficient : Vec3 → Vec3 → Float → Outcome
fixed_coefficient area away response = positive (projected response area away)

-- ---- the predicted flux (Rhie and Chow)

unfoldable pub mixed : Vec3 → Float → Vec3 → Float → Vec3
mixed a s b t = sum (scaled a s) (scaled b t)

-- the interpolated velocity and the covariance of response and gradient, both times the area, and the coefficient times (gradient · d − pressure difference)
unfoldable pub predicted : Span → Pair → Float → Side → Side → Float
predicted s d k a b =
    let w = d.other ⊘ (d.owner ⊕ d.other) in
    let u = one64 ⊖ w in
    let velocity = mixed a.velocity w b.velocity u in
    let gradient = mixed a.gradient w b.gradient u in
    let weighted = mixed a.gradient (w ⊗ a.response) b.gradient (u ⊗ b.response) in
    let covariance = difference weighted (scaled gradient (w ⊗ a.response ⊕ u ⊗ b.response)) in
    dot velocity s.area ⊕ dot covariance s.area ⊕ k ⊗ (dot gradient (across s) ⊖ (b.pressure ⊖ a.pressure))

-- BadCoefficient where it is not finite
unfoldable pub predicted_flux : Span → Pair → Float → Side → Side → Outcome
predicted_flux s d k a b = cond (is_finite (predicted s d k a b)) (Ok (predicted s d k a b)) (Err BadCoefficient)

-- ---- the corrected flux

-- predicted − coefficient × (other − own); BadCoefficient for the coefficient first, then for a result that is not finite
unfoldable pub corrected_flux : Float → Float → Float → Float → Outcome
corrected_flux p k other own =
    let v = p ⊖ k ⊗ (other ⊖ own) in
    cond (is_usable k) (cond (is_finite v) (Ok v) (Err BadCoefficient)) (Err BadCoefficient)
