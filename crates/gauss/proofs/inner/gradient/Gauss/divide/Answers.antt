use mathlib.Core.Path.{◌≡◌, ◌∙◌, ap}
use Rattle.coupling.specs.Grid.{grid_of_lent}
use Rattle.vector.specs.Vector.{quotient, vector_at}
use Rattle.vector.specs.declared.Vec3.{Vec3}
use Rattle.mesh.specs.Records.{volume_at}
use Rattle.mesh.specs.declared.Cell.{Cell}
use Prim.Native.Nat.{◌*◌}
use Rattle.vector.proofs.Vectors.{replaced_start, replaced_read, replaced_more}
use Rattle.gauss.specs.Gauss.{gradient_at}
use Rattle.gauss.proofs.inner.gradient.Gauss.divide.Goals as goal

pub loop-c-init : goal.loop-c-init
loop-c-init c = replaced_start _ _ _ c.requires.out_len

pub loop-c-preserved : goal.loop-c-preserved
unfolding gradient_at
loop-c-preserved c =
    let m = grid_of_lent c.args.self.now.grid in
    let read = replaced_read _ _ _ _ _ c.loop-c.invariant in
    let volume : c.cell_at-volume.result.volume ≡ volume_at c.args.self.now.grid.places.now c.loop-c.c = ap (λ (k : Cell). k.volume) c.cell_at-volume.ensures in
    rw c.put_vector.ensures
    (replaced_more (gradient_at m c.args.out.now) _ c.args.out.now c.loop-c.out c.loop-c.c c.div-gradient.result c.loop-c.invariant c.loop-c-test.true
    (c.div-gradient.ensures ∙ ap (λ (v : Vec3). quotient v c.cell_at-volume.result.volume) (c.vector_at.ensures ∙ read) ∙ ap (quotient (vector_at c.args.out.now (3 * c.loop-c.c))) volume))
