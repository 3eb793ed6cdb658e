-- An accepted correction keeps its promise, in one slice or into a second. Assumes nothing.
use mathlib.Core.Path.{◌≡◌, sym, subst, ap, ◌∙◌}
use mathlib.Core.List.{List}
use Prim.Native.Nat.{ℕ}
use lib.ListN.{length}
use lib.Ieee.{Float}
use Rattle.mesh.specs.Answers.{Answer, accepted}
use Rattle.mesh.specs.Pass.{handed_out}
use Rattle.mesh.specs.Mesh.{Conditions}
use Rattle.mesh.specs.declared.Counts.{Counts}
use Rattle.corrector.specs.Correction.{Correctable, CorrectableFaces, correction_answer, corrected_fluxes}
use Rattle.corrector.specs.Promise.{Promise, boundary_of}
use Rattle.corrector.proofs.Promised.{promised}
use Rattle.simple.specs.Corrected.{Fields, correcting_by, correction_checks, Promised}
use Rattle.simple.proofs.Checked.{correction_passed}

pub keeps_promise : (n : Counts) (adjacency : List ℕ) (k : Conditions) (l : Fields) (outs : ℕ) (checks r : Answer) (new : List Float)
    → checks ≡ correction_checks n adjacency k l outs
    → checks ≡ accepted
    → r ≡ correction_answer (correcting_by adjacency k l)
    → new ≡ handed_out r (length l.predicted.values) (corrected_fluxes (correcting_by adjacency k l))
    → Promised r adjacency k l new
unfolding handed_out
keeps_promise n adjacency k l outs checks r new checked passed answer out ok =
    let m = correcting_by adjacency k l in
    let p = correction_passed n adjacency k l outs (sym checked ∙ passed) in
    let good : Correctable m = subst (λ (i : ℕ). CorrectableFaces i adjacency k.codes k.values l.coefficients.values l.correction.values) (sym p.predicted) p.correctable in
    subst (Promise (boundary_of m)) (sym (out ∙ ap (λ (a : Answer). handed_out a (length l.predicted.values) (corrected_fluxes m)) ok)) (promised m good (sym answer ∙ ok))
