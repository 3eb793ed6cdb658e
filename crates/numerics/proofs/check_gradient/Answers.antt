use mathlib.Core.Path.{sym, ◌∙◌}
use native.Mathlib.Omega.{arith}
use Rattle.chain.proofs.Truth.{and_true}
use Rattle.mesh.proofs.Facts.{small}
use Rattle.numerics.proofs.check_gradient.Goals as goal

pub overflow_add-counts : goal.overflow_add-counts
overflow_add-counts c =
    let sizes = (and_true c.sizes_ok.result _ (c.shape.ensures.counted c.in_ok-shape.was)).0 in
    omega (arith, (small c.args.counts (sym c.sizes_ok.ensures ∙ sizes)).cells)
