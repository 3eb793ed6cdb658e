use mathlib.Core.Path.{◌∙◌, ap}
use Prim.Native.Nat.{ℕ}
use native.Mathlib.Numerals.{add-one}
use lib.ListN.{replicate}
use Rattle.binary64.specs.Numbers.{zero64}
use Rattle.gauss.specs.Gauss.{sums}
use Rattle.gauss.proofs.inner.gradient.Gauss.gather.Goals as goal

pub loop-f-init : goal.loop-f-init
unfolding sums
loop-f-init g c = record {
  size = c.clear.auto.out ∙ c.requires.out_len;
  gathered = λ h r. c.clear.ensures ∙ ap (λ (k : ℕ). replicate k zero64) c.requires.out_len;
}

pub loop-f-preserved : goal.loop-f-preserved
unfolding sums
loop-f-preserved g c = record {
  size = c.gather_face.auto.out ∙ c.loop-f.invariant.size;
  gathered = λ h r.
      c.gather_face.ensures.gathered
      ∙ rw (add-one, c.loop-f.invariant.gathered h r, r c.loop-f.f c.value.result c.loop-f-test.true c.value.ensures);
}
