-- What the checks establish of a grid with conditions and links. Assumes nothing.
use mathlib.Core.Path.{◌≡◌}
use mathlib.Core.Bool.{true, ◌&&◌}
use Prim.Native.Nat.{◌*◌}
use native.Mathlib.Omega.{arith}
use lib.Dec.{eqb}
use lib.ListN.{length}
use borrow.Author.Tests.{eqb-true}
use Rattle.chain.proofs.Truth.{and_true}
use Rattle.mesh.specs.Answers.{accepted}
use Rattle.mesh.specs.Mesh.{Conditions, bounds_of, conditions_sized, grid_links}
use Rattle.mesh.specs.declared.Counts.{Counts}
use Rattle.mesh.proofs.Facts.{peer_below}
use Rattle.mesh.proofs.Good.{grid_links_passed}
use Rattle.coupling.specs.Grid.{Grid, Coupled, grid_sized}
use Rattle.coupling.proofs.Coupled.{gridded, coupled}
use Rattle.predictor.specs.Boundary.{Bounded}

pub links_coupled : (n : Counts) (m : Grid) (k : Conditions) → (grid_sized n m && conditions_sized n.faces k.codes k.values) ≡ true
    → grid_links n.cells m.adjacency m.geometry m.places k.codes ≡ accepted
    → Coupled m n.cells n.faces × Bounded (bounds_of k) n.faces
links_coupled n m k sized passed =
    let u = and_true (grid_sized n m) (conditions_sized n.faces k.codes k.values) sized in
    let t = and_true (eqb (length k.codes) (2 * n.faces)) (eqb (length k.values) (4 * n.faces)) u.1 in
    let codes : length k.codes ≡ 2 * n.faces = eqb-true _ _ t.0 in
    let z = gridded n m u.0 in
    let linked = grid_links_passed n m.adjacency m.geometry m.places k.codes z passed in (
      coupled n m z linked.0 linked.2,
      record { codes = codes; values = eqb-true _ _ t.1; peers = λ f l. peer_below m.adjacency k.codes n.faces f codes (linked.1 f (omega (arith, codes, l))) },
    )
