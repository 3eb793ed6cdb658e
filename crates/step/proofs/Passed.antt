-- What the checks of the step establish. Assumes nothing.
use Rattle.refusal.specs.declared.Reason.TheVariants.{BadSize, WrongLength, OtherMesh}
use mathlib.Core.Path.{◌≡◌}
use mathlib.Core.Bool.{◌&&◌}
use Prim.Native.Nat.{◌*◌}
use lib.Dec.{eqb, leb}
use lib.ListN.{length}
use borrow.Author.Tests.{eqb-true, leb-true}
use Rattle.mesh.specs.Answers.{accepted}
use Rattle.mesh.specs.Checks.{largest_count, sizes_ok}
use Rattle.mesh.specs.Mesh.{mesh_sized, conditions_sized}
use Rattle.mesh.proofs.Facts.{all_accepted, shape_first, small}
use Rattle.mesh.proofs.Facts as facts
use Rattle.mesh.proofs.Good.{sized, whole}
use Rattle.chain.proofs.Truth.{and_true, every_at}
use Rattle.numerics.specs.Slices.{lengths_of, stencil_sizes}
use Rattle.step.specs.Call.{Handed, field_sizes, fields_sized, output_sizes, outputs_sized, step_numbers, step_checks, OutputsFit}
use Rattle.scheme.specs.Step.{Inputs, Lendable}

pub passed : (d : Inputs) (old : Handed) → step_checks d old ≡ accepted → Lendable d × OutputsFit d.mesh.counts d.records old
unfolding step_checks
passed d old h =
    let m = d.mesh in
    let n = m.counts in
    let k = d.conditions in
    let s = all_accepted _ h in
    let counts = and_true (sizes_ok n) (leb d.records largest_count) (facts.passed BadSize _ (s 0)) in
    let same = every_at (step_numbers d) (facts.passed OtherMesh _ (s 2)) in
    let bound = conditions_sized n.faces k.codes k.values in
    let fields =
    fields_sized n (length d.velocity.values) (length d.pressure.values) (length d.responses.values) (length d.walls.values) (length d.correction.values) in
    let w = and_true (mesh_sized m && bound && fields) (outputs_sized n d.records old) (facts.passed WrongLength _ (s 1)) in
    let v = and_true (mesh_sized m && bound) fields w.0 in
    let u = and_true (mesh_sized m) bound v.0 in
    let own = and_true (eqb (length k.codes) (2 * n.faces)) (eqb (length k.values) (4 * n.faces)) u.1 in
    let f =
    every_at
    (field_sizes n (length d.velocity.values) (length d.pressure.values) (length d.responses.values) (length d.walls.values) (length d.correction.values)) v.1 in
    let o = every_at (output_sizes n d.records old) w.1 in
    let t = every_at (stencil_sizes n.cells d.records (lengths_of old.stencil)) (o 0) in
    let z = sized m u.0 in
    let met = whole m k.codes z (eqb-true _ _ own.0) (s 3) in (
      record {
        good = record {
          small = small n counts.0;
          sized = z;
          codes = eqb-true _ _ own.0;
          values = eqb-true _ _ own.1;
          same = eqb-true _ _ (same 0);
          sound = met.0;
          carried = met.1;
        };
        few = leb-true d.records largest_count counts.1;
        velocity = eqb-true _ _ (f 0);
        pressure = eqb-true _ _ (f 1);
        responses = eqb-true _ _ (f 2);
        walls = eqb-true _ _ (f 3);
        correction = eqb-true _ _ (f 4);
      },
      record {
        starts = eqb-true _ _ (t 0);
        equations = eqb-true _ _ (t 1);
        weights = eqb-true _ _ (t 2);
        inverses = eqb-true _ _ (t 3);
        gradient = eqb-true _ _ (o 1);
        predicted = eqb-true _ _ (o 2);
        coefficients = eqb-true _ _ (o 3);
        flux = eqb-true _ _ (o 4);
        outflow = eqb-true _ _ (o 5);
        metrics = eqb-true _ _ (o 6);
      },
    )
