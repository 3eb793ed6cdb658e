-- P1 to P12 hold of the definitions. Assumes nothing.
use mathlib.Core.Path.{refl}
use lib.Dec.{lit≤}
use lib.Ieee.{of_bits, add, sub, mul, div, neg, le, lt}
use Rattle.binary64.specs.Root.{root_in}
use Rattle.binary64.specs.Units.{exact_total, signed_count, count, total_count}
use Rattle.vector.specs.Vector.{dot, difference}
use Rattle.coupling.specs.Face.{distances, interpolated, projected, positive, internal_coefficient, corrected_flux}
use Rattle.numerics.specs.Outflow.{outflows, scatter, scatter_face, up_to, face_terms}
use Rattle.corrector.specs.Correction.{wall_flux, corrected_flux_at}
use Rattle.scheme.specs.Examples.{Examples}

pub examples : Examples
unfolding root_in of_bits add sub mul div neg le lt dot difference distances interpolated projected positive internal_coefficient corrected_flux wall_flux corrected_flux_at outflows scatter scatter_face up_to face_terms exact_total signed_count count total_count
examples =
    (refl, (refl, (refl, (refl, (refl, (refl, (refl, (refl, (refl, (λ p other own. refl, (λ p own. refl, ((refl, refl, lit≤ tt), tt))))))))))))
