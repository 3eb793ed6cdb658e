use mathlib.Core.Path.{◌≡◌}
use native.Mathlib.Omega.{arith}
use lib.ListN.{length}
use Rattle.std.proofs.Common.{Err}
use Rattle.std.proofs.lemmas.Grind.{common_steps}
use Rattle.refusal.specs.declared.Refusal.{Refusal}
use Rattle.mesh.specs.Pass.{handed_out}
use Rattle.gauss.proofs.inner.gradient.Gauss.gauss_gradient.Goals as goal

pub returns-in_err-settle-clause-contents : goal.returns-in_err-settle-clause-contents
unfolding handed_out
returns-in_err-settle-clause-contents g c = λ h r.
    let why : (e : Refusal) × (c.at.result ≡ Err e) × (c.from_residual.result ≡ Err e) = grind (arith, common_steps) in
    let cleared : c.settle.new.out ≡ handed_out c.at.result (length c.args.out.now) c.args.out.now = c.settle.ensures.out_after in
    rw (cleared, why.1, why.2, c.requires.out_len)

pub returns-clause-contents : goal.returns-clause-contents
unfolding handed_out
returns-clause-contents g c = λ h r.
    rw (c.divide.ensures.divided, c.gather.ensures.gathered h r)
