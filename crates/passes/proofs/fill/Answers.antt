use Rattle.std.proofs.Common.{arith, sym, ◌∙◌, ◌≡◌, Err}
use Rattle.std.proofs.lemmas.Grind.{common_steps}
use Rattle.refusal.specs.Numbers.{refusal}
use Rattle.refusal.specs.declared.Reason.{Reason}
use Rattle.passes.proofs.Each.{all_filled, refused}
use Rattle.passes.proofs.fill.Goals as goal

pub returns-in_err-x : goal.returns-in_err-x
returns-in_err-x g c =
    let why : (k : Reason) × (c.item.result ≡ Err k) × (c.from_residual.result ≡ Err (refusal k c.loop-i.i-counter)) = grind (arith, common_steps) in
    record {
      fills = λ h r.
          rw why.2
          (refused h c.loop-i.out _ _ c.loop-i.i-counter _ (omega arith) (λ k b. sym (r k _ (omega (arith, b)) (c.loop-i.invariant.done k b)))
          (sym (r _ c.item.result (omega arith) (rw (sym (c.loop-i.invariant.same c.loop-i.i-counter (omega arith))) c.item.ensures)) ∙ why.1));
    }

pub returns : goal.returns
returns g c = record {
  fills = λ h r. all_filled h _ _ (c.loop-i.auto.out) (λ k b. sym (r k _ b (c.loop-i.invariant.done k (omega (arith, b)))));
}
