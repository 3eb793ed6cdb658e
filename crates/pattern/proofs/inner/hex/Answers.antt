use Rattle.std.proofs.Common.{◌∙◌, ap, sym, arith, length}
use Rattle.pattern.proofs.Digits.{hex-length, spells_all, spells_none, spells_more, below_more, fits_more}
use Rattle.pattern.proofs.inner.hex.Goals as goal

pub returns-then-text-ne16 : goal.returns-then-text-ne16
returns-then-text-ne16 c = λ n e. c.if-text-ne16.true (ap length (sym e) ∙ hex-length n)

pub overflow_mul-n : goal.overflow_mul-n
overflow_mul-n c =
    omega (arith, fits_more c.loop-b.b-index c.loop-b.n 0 (omega arith) (omega arith) c.loop-b.invariant.bounded)

pub overflow_add-n : goal.overflow_add-n
overflow_add-n c =
    record { fits = fits_more c.loop-b.b-index c.loop-b.n _ c.in_ok-n.ensures.0 (omega arith) c.loop-b.invariant.bounded }

pub returns-in_err-n : goal.returns-in_err-n
returns-in_err-n c =
    rw c.from_residual.ensures (λ n. spells_none c.args.text.now n c.loop-b.b-index (omega arith) c.in_err-n.ensures)

pub loop-b-preserved : goal.loop-b-preserved
loop-b-preserved c =
    let (small, spelled) = c.in_ok-n.ensures in
    record {
      bounded = below_more c.loop-b.b-index _ _ small c.loop-b.invariant.bounded;
      spelled = spells_more c.loop-b.b-index _ _ small c.args.text.now c.loop-b-test.true spelled c.loop-b.invariant.spelled;
    }

pub returns : goal.returns
returns c = spells_all _ c.loop-b.b-index _ c.if-text-ne16.false c.loop-b-test.false c.loop-b.auto.b-index-end c.loop-b.invariant.spelled
