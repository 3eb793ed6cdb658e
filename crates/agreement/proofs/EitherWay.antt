-- The correction in one slice gives what the correction into a second slice gives. Assumes nothing.
use Rattle.std.specs.Prelude.{Ok, Err}
use mathlib.Core.Path.{◌≡◌, refl, sym, ap, ◌∙◌}
use mathlib.Core.List.{List}
use Prim.Native.Nat.{ℕ}
use lib.ListN.{length}
use lib.Ieee.{Float}
use Rattle.mesh.specs.Answers.{or_else, Answer}
use Rattle.mesh.specs.Pass.{handed_out, if_refused}
use Rattle.passes.proofs.Stages.{never_accepted}
use Rattle.corrector.specs.Correction.{correction_answer, corrected_fluxes}
use Rattle.simple.specs.Corrected.{correcting_by, correction_checks}
use Rattle.agreement.specs.EitherWay.{Same, EitherWay}

-- two outputs that hold the same unless the checks refuse
both : (checks : Answer) (old predicted result out flux : List Float) (r s : Answer) → s ≡ r → out ≡ if_refused checks old result → flux ≡ if_refused checks predicted result → Same checks old predicted r s out flux
unfolding if_refused
both (Ok u) old predicted result out flux r s e o f = record { answer = e; contents = λ _. f ∙ sym o; untouched = λ no. absurd (no refl) }
both (Err x) old predicted result out flux r s e o f = record { answer = e; contents = λ ok. absurd (never_accepted x ok); untouched = λ _. (o, f) }

pub either_way : EitherWay
either_way n adjacency k l old out flux r s same two one =
    let checks : ℕ → Answer = correction_checks n adjacency k l in
    let fluxes = corrected_fluxes (correcting_by adjacency k l) in
    let e : s ≡ r = one.answer ∙ ap (λ (m : ℕ). or_else (checks m) (correction_answer (correcting_by adjacency k l))) (sym same) ∙ sym two.answer in
    let f = one.out ∙ ap (λ (m : ℕ). if_refused (checks m) l.predicted.values (handed_out s n.faces fluxes)) (sym same) in
    both (checks (length old)) old l.predicted.values (handed_out r n.faces fluxes) out flux r s e two.out (f ∙ ap (λ (a : Answer). if_refused (checks (length old)) l.predicted.values (handed_out a n.faces fluxes)) e)
