-- What the checks of a flux establish. Assumes nothing.
use Rattle.refusal.specs.declared.Reason.TheVariants.{WrongLength}
use mathlib.Core.Path.{◌≡◌, sym, subst}
use mathlib.Core.List.{List}
use mathlib.Core.Bool.{◌&&◌}
use Prim.Native.Nat.{ℕ, ◌*◌}
use native.Mathlib.Omega.{arith}
use lib.Dec.{eqb}
use lib.ListN.{length}
use lib.Ieee.{Float}
use borrow.Author.Tests.{eqb-true}
use Rattle.mesh.specs.Answers.{accepted}
use Rattle.mesh.specs.Facts.{CellsOf, FacesIn}
use Rattle.mesh.specs.declared.Counts.{Counts}
use Rattle.chain.proofs.Truth.{and_true}
use Rattle.mesh.proofs.Facts.{all_accepted, passed}
use Rattle.mesh.proofs.Good.{sides_passed}
use Rattle.numerics.specs.Outflow.{outflow_checks, Flows}

-- by the sizes of a mesh of so many cells and faces
pub flows_by : (cells faces : ℕ) (adjacency : List ℕ) (flux : List Float) (outs : ℕ)
    → length adjacency ≡ 2 * faces → length flux ≡ faces → outs ≡ cells → FacesIn cells adjacency
    → Flows outs adjacency flux
flows_by cells faces adjacency flux outs a v o good = record {
  size = omega (arith, a, v);
  faces = λ f l. subst (λ (k : ℕ). CellsOf k adjacency f) (sym o) (good f (omega (arith, a, v, l)));
}

pub flows : (n : Counts) (adjacency : List ℕ) (number : ℕ) (flux : List Float) (outs : ℕ)
    → outflow_checks n adjacency number flux outs ≡ accepted
    → Flows outs adjacency flux × (outs ≡ n.cells)
unfolding outflow_checks
flows n adjacency number flux outs h =
    let s = all_accepted _ h in
    let lengths = and_true (eqb (length adjacency) (2 * n.faces) && eqb (length flux) n.faces) (eqb outs n.cells) (passed WrongLength _ (s 1)) in
    let own = and_true (eqb (length adjacency) (2 * n.faces)) (eqb (length flux) n.faces) lengths.0 in
    let a : length adjacency ≡ 2 * n.faces = eqb-true _ _ own.0 in
    let v : length flux ≡ n.faces = eqb-true _ _ own.1 in
    let o : outs ≡ n.cells = eqb-true _ _ lengths.1 in
    (flows_by n.cells n.faces adjacency flux outs a v o (sides_passed n.cells adjacency (s 3)).0, o)
