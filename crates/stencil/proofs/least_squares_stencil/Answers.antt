use mathlib.Core.Path.{sym, ◌∙◌}
use Rattle.mesh.specs.Bundles.{mesh_of, conditions_of}
use Rattle.stencil.specs.Bundles.{slices_in}
use Rattle.stencil.proofs.Buildable.{Passed, passed_checks}
use Rattle.stencil.proofs.least_squares_stencil.Goals as goal
use Rattle.stencil.proofs.least_squares_stencil.Goals.{In_ok-check_stencil}

known : (c : In_ok-check_stencil) → Passed (mesh_of c.args.mesh.now) (conditions_of c.args.conditions.now) c.args.out.now.records (slices_in c.args.out.now)
known c = passed_checks _ _ _ _ (sym c.check_stencil.ensures.checked ∙ c.in_ok-check_stencil.was)

pub invariant_of-domain : goal.invariant_of-domain
invariant_of-domain c =
    record { buildable = rw c.bounds.ensures (known ((goal.at.invariant_of-domain c).In_ok-check_stencil)).buildable }

pub least_squares_stencil-requires : goal.least_squares_stencil-requires
least_squares_stencil-requires c =
    let k = known ((goal.at.least_squares_stencil-requires c).In_ok-check_stencil) in
    record { sized = rw c.bounds.ensures k.slices; small = k.small }
