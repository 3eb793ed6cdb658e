-- Laws of the outputs: when two sets of them are the same once cleared, and that those of an accepted step meet demand 3. Assumes nothing.
use Rattle.mesh.specs.Answers.{accepted}
use mathlib.Core.Path.{◌≡◌, sym, ◌∙◌, subst}
use Prim.Native.Nat.{ℕ, ◌<◌}
use lib.Dec.{T}
use lib.ListN.{length, get_or}
use lib.Ieee.{nan, binary64, fits}
use Rattle.scheme.specs.Demand.{DemandThree}
use Rattle.scheme.specs.Step.{Inputs, Lendable, work_answer}
use Rattle.scheme.proofs.Demanded.{demanded, demanded_of_walls}
use Rattle.mesh.specs.declared.Counts.{Counts}
use Rattle.step.specs.Call.{Handed, cleared, results, OutputsFit}

-- of cleared outputs only the lengths are left, which the checks have fixed
pub cleared_alike : (n : Counts) (records : ℕ) (a b : Handed) → OutputsFit n records a → OutputsFit n records b → cleared a ≡ cleared b
cleared_alike n records a b f g =
    rw (
      f.starts ∙ sym g.starts,
      f.equations ∙ sym g.equations,
      f.weights ∙ sym g.weights,
      f.inverses ∙ sym g.inverses,
      f.gradient ∙ sym g.gradient,
      f.predicted ∙ sym g.predicted,
      f.coefficients ∙ sym g.coefficients,
      f.flux ∙ sym g.flux,
      f.outflow ∙ sym g.outflow,
      f.metrics ∙ sym g.metrics,
    )

-- what an accepted step hands out meets demand 3
pub delivered : (d : Inputs) → Lendable d → (new : Handed) → ((f : ℕ) → T (fits binary64 (get_or new.flux f nan))) → new ≡ results d → work_answer d ≡ accepted
    → DemandThree d new.predicted new.flux new.outflow
delivered d ready new fit e ok =
    subst (λ (h : Handed). ((f : ℕ) → T (fits binary64 (get_or h.flux f nan))) → DemandThree d h.predicted h.flux h.outflow) (sym e) (λ w. demanded d ready (λ f _. w f) ok) fit

-- and so it does where the wall fluxes are numbers of binary64, as the slice that lends them says
pub delivered_of_walls : (d : Inputs) → Lendable d → (new : Handed) → ((f : ℕ) → f < length d.walls.values → T (fits binary64 (get_or d.walls.values f nan)))
    → new ≡ results d → work_answer d ≡ accepted → DemandThree d new.predicted new.flux new.outflow
delivered_of_walls d ready new fit e ok = subst (λ (h : Handed). DemandThree d h.predicted h.flux h.outflow) (sym e) (demanded_of_walls d ready fit ok)
