-- The list that `complete` is lent, and the first of two later refusals. Assumes nothing.
use Rattle.std.specs.Prelude.{List, Ok, Err}
use Rattle.std.specs.Result.{result_and}
use mathlib.Core.Path.{◌≡◌, refl, sym, ap, ◌∙◌}
use Prim.Native.Nat.{ℕ, ◌<◌}
use lib.ListN.{length, get_or}
use lib.Ieee.{Float, nan}
use Rattle.refusal.specs.declared.Reason.{Reason}
use Rattle.mesh.specs.Answers.{Answer, refused}
use Rattle.mesh.specs.Pass.{after}
use Rattle.mesh.proofs.Values.{value_at}
use Rattle.coupling.specs.Grid.{Grid}
use Rattle.predictor.specs.Boundary.{Begun}
use Rattle.predictor.specs.Coefficients.{internal_at}

-- each number of it is the coefficient of its face, by what refuses none
pub own_coefficient : (m : Grid) (w l : List Float) (f : ℕ) → Begun m w l → f < length l → internal_at m w f ≡ Ok (get_or l f nan)
own_coefficient m w l f b h =
    let v = value_at (internal_at m w) (length l) f b.0 h in
    v.1 ∙ ap Ok (sym (ap (λ (k : List Float). get_or k f nan) b.1 ∙ v.2))

-- a later refusal stays behind an earlier one
pub and_refused : (late : Answer) (k : Reason) (i : ℕ) → result_and late (refused k i) ≡ after late (Err k) i
unfolding after
and_refused (Ok u) k i = refl
and_refused (Err e) k i = refl
