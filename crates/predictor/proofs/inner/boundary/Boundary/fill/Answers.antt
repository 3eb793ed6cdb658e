use Rattle.std.proofs.Common.{Ok, Err, ◌≡◌, sym, arith}
use Rattle.std.proofs.lemmas.Grind.{common_steps}
use lib.ListN.{set}
use lib.Ieee.{Float}
use Rattle.refusal.specs.Numbers.{refusal}
use Rattle.refusal.specs.declared.Reason.{Reason}
use Rattle.passes.proofs.Stages.{start, kept, missed, finish}
use Rattle.predictor.proofs.Started.{and_refused}
use Rattle.predictor.proofs.inner.boundary.Boundary.fill.Goals as goal
use Rattle.predictor.proofs.inner.boundary.Boundary.fill.Goals.{in-Ok-Ok, in-Ok-Err}

pub loop-f-init : goal.loop-f-init
loop-f-init c = start _ _ _ _ c.requires.out_len

pub loop-f-preserved : goal.loop-f-preserved
loop-f-preserved c =
    elim c.match-stage_at-2.branch [
      | in-Ok-Ok w ↦
          let why : (v : Float) × (c.stage_at.result ≡ Ok (Ok v)) × (c.match-stage_at-2.out ≡ set c.loop-f.out c.loop-f.f v) =
          grind (arith, common_steps) in
          rw (w.late-is, why.2) (kept _ _ _ _ _ _ why.0 (rw c.stage_at.ensures.answer at why.1) c.loop-f.invariant (omega arith))
      | in-Ok-Err w ↦
          let why : (k : Reason) × (c.stage_at.result ≡ Ok (Err k)) × (w.at.result ≡ refusal k c.loop-f.f) =
          grind (arith, common_steps) in
          rw (w.out-is, w.late-is, w.and-late.ensures, why.2, and_refused)
          (missed _ _ _ _ _ _ why.0 (rw c.stage_at.ensures.answer at why.1) c.loop-f.invariant (omega arith))
    ]

pub returns : goal.returns
returns c =
    let w = finish _ _ _ _ _ _ c.loop-f.invariant (omega arith) in
    record { passes = (sym w.0, w.1) }
