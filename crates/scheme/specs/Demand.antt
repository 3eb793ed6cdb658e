-- What an accepted step promises, for everything that may be lent to it: demand 3 of the customer. Definitions only.
--
-- The fluxes are the corrected ones that it hands out, and the outflows are summed from them with rounding. Exact sums count in units of 2 ^ -1074.
-- 1. There are as many fluxes as faces and as many outflows as cells, and each is finite. Each cell's outflow differs from the exact sum of its terms, times 2 ^ 53, by at most the number of its terms
--    less one times the sum of their magnitudes; and all outflows together differ from the exact flux through the faces with one cell by at most the sum of these bounds.
--    No cell has more than 26 terms, so that in each of these bounds 25 may be put for the multiplier.
-- 2. An unlinked one-cell zero-gradient face keeps the wall flux as lent.
-- 3. Of two faces that are linked to each other the lower leaves prediction with a finite flux, and the higher with that negated, bit for bit.
-- 4. Two such faces whose coefficients are equal leave with opposite fluxes, a zero's sign aside.
use Rattle.mesh.specs.Answers.{Answer, accepted}
use Rattle.std.specs.Prelude.{◌≡◌, List, ℕ, ◌<◌, T, length, get_or, Float}
use Rattle.std.specs.Float.{nan}
use Rattle.std.specs.Float.Ieee.{neg}
use Rattle.std.specs.Float.Ieee.Scale.{finite}
use Rattle.binary64.specs.Units.{Opposite}
use Rattle.mesh.specs.Records.{neighbour_at, code_at, peer_at}
use Rattle.numerics.specs.Outflow.{faces_of}
use Rattle.balance.specs.Balance.{Balanced}
use Rattle.balance.specs.Quotable.{Quotable}
use Rattle.corrector.specs.Promise.{Boundary, Linked, KeepsFree}
use Rattle.scheme.specs.Step.{Inputs, coefficients_of}

-- the faces as 2, 3 and 4 read them: the given flux is the wall flux, and the coefficient that of the step's coefficients with boundary
abbrev pub walls_of : Inputs → Boundary
walls_of d = record {
  faces = d.mesh.counts.faces;
  neighbour = neighbour_at d.mesh.adjacency;
  peer = peer_at d.conditions.codes;
  code = code_at d.conditions.codes;
  given = λ f. get_or d.walls.values f nan;
  coefficient = λ f. get_or (coefficients_of d) f nan;
}

abbrev pub PredictsOpposite : Boundary → List Float → Type 0
PredictsOpposite t predicted =
    (f g : ℕ) → g < t.faces → f < g → Linked t f g
    → T (finite (get_or predicted f nan)) × (get_or predicted g nan ≡ neg (get_or predicted f nan))

abbrev pub LeavesOpposite : Boundary → List Float → Type 0
LeavesOpposite t fluxes =
    (f g : ℕ) → f < t.faces → g < t.faces → Linked t f g → t.coefficient f ≡ t.coefficient g
    → Opposite (get_or fluxes f nan) (get_or fluxes g nan)

pub record DemandThree (d : Inputs) (predicted corrected outflow : List Float) : Type 0 where
  pub fluxes : length corrected ≡ d.mesh.counts.faces
  pub outflows : length outflow ≡ d.mesh.counts.cells
  pub finite_outflows : (c : ℕ) → c < length outflow → T (finite (get_or outflow c nan))
  pub balanced : Balanced (faces_of d.mesh.adjacency corrected) d.mesh.counts.faces outflow
  pub quotable : Quotable (faces_of d.mesh.adjacency corrected) d.mesh.counts.faces outflow
  pub kept : KeepsFree (walls_of d) corrected
  pub paired : PredictsOpposite (walls_of d) predicted
  pub opposite : LeavesOpposite (walls_of d) corrected

abbrev pub Demanded : Answer → Inputs → List Float → List Float → List Float → Type 0
Demanded r d predicted fluxes outflow = r ≡ accepted → DemandThree d predicted fluxes outflow
