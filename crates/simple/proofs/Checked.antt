-- What the checks of each entry establish. Assumes nothing.
use Rattle.refusal.specs.declared.Reason.TheVariants.{BadSize, WrongLength}
use Rattle.mesh.specs.Answers.{accepted}
use mathlib.Core.Path.{◌≡◌, refl, sym, ◌∙◌}
use mathlib.Core.List.{List}
use mathlib.Core.Bool.{true, ◌&&◌}
use Prim.Native.Nat.{ℕ, ◌*◌, ◌≤◌}
use native.Mathlib.Omega.{arith}
use lib.Dec.{eqb}
use lib.ListN.{length}
use lib.Ieee.{Float}
use borrow.Author.Tests.{eqb-true}
use Rattle.mesh.specs.Checks.{largest_count}
use Rattle.mesh.specs.Mesh.{Conditions, bounds_of, conditions_sized}
use Rattle.mesh.specs.declared.Counts.{Counts}
use Rattle.mesh.proofs.Facts.{all_accepted, passed, small, peer_below}
use Rattle.mesh.proofs.Good.{sides_passed, links_passed, grid_with_equations_passed}
use Rattle.chain.proofs.Truth.{and_true, every_at}
use Rattle.numerics.specs.Slices.{Slices, lengths_of, stencil_sized}
use Rattle.numerics.specs.Gradient.{Sloped}
use Rattle.numerics.specs.Outflow.{Flows}
use Rattle.numerics.proofs.Flows.{flows_by}
use Rattle.numerics.proofs.Slopes.{slopes_by}
use Rattle.predictor.specs.Boundary.{Bounded, boundary_checks}
use Rattle.predictor.proofs.Linked.{links_coupled}
use Rattle.predictor.specs.Coefficients.{coefficient_checks}
use Rattle.simple.specs.Corrected.{Fields, correction_sizes, correction_checks}
use Rattle.corrector.specs.Correction.{CorrectableFaces}
use Rattle.corrector.specs.Diagonal.{diagonal_checks}
use Rattle.coupling.specs.Grid.{Grid, Field, Coupled, grid_sized}
use Rattle.coupling.proofs.Coupled.{gridded, coupled, coupled_by, sides_coupled}
use Rattle.corrector.specs.Metrics.{metrics_sizes, metrics_checks}
use Rattle.predictor.specs.Prediction.{FlowFields, sizes_of, flow_sizes, flow_sized, prediction_checks}
use Rattle.corrector.specs.Velocity.{velocity_sizes, velocity_checks}

-- ---- one cell's number

pub diagonal_passed : (n : Counts) (diagonal : List Float) (outs : ℕ) → diagonal_checks n diagonal outs ≡ accepted → (length diagonal ≡ n.cells) × (outs ≡ n.cells)
unfolding diagonal_checks
diagonal_passed n diagonal outs h =
    let s = all_accepted _ h in
    let w = and_true (eqb (length diagonal) n.cells) (eqb outs n.cells) (passed WrongLength _ (s 1)) in
    (eqb-true _ _ w.0, eqb-true _ _ w.1)

pub velocity_passed : (n : Counts) (velocity responses gradient : Field) (outs : ℕ) → velocity_checks n velocity responses gradient outs ≡ accepted
    → (length velocity.values ≡ 3 * length responses.values) × (length gradient.values ≡ 3 * length responses.values) × (outs ≡ 3 * length responses.values)
unfolding velocity_checks
velocity_passed n velocity responses gradient outs h =
    let s = all_accepted _ h in
    let w = every_at (velocity_sizes n velocity responses gradient outs) (passed WrongLength _ (s 1)) in
    let v : length velocity.values ≡ 3 * n.cells = eqb-true _ _ (w 0) in
    let r : length responses.values ≡ n.cells = eqb-true _ _ (w 1) in
    let g : length gradient.values ≡ 3 * n.cells = eqb-true _ _ (w 2) in
    let o : outs ≡ 3 * n.cells = eqb-true _ _ (w 3) in
    (omega (arith, v, r), omega (arith, g, r), omega (arith, o, r))

-- ---- faces and their cells

pub coefficients_passed : (n : Counts) (m : Grid) (responses : Field) (outs : ℕ) → coefficient_checks n m responses outs ≡ accepted → Coupled m (length responses.values) n.faces × (outs ≡ n.faces)
unfolding coefficient_checks
coefficients_passed n m responses outs h =
    let s = all_accepted _ h in
    let w = and_true (grid_sized n m && eqb (length responses.values) n.cells) (eqb outs n.faces) (passed WrongLength _ (s 1)) in
    let v = and_true (grid_sized n m) (eqb (length responses.values) n.cells) w.0 in
    (coupled_by m n.cells n.faces (length responses.values) (eqb-true _ _ v.1) (sides_coupled n m v.0 (s 3)), eqb-true _ _ w.1)

-- ---- with conditions and links

pub boundary_passed : (n : Counts) (m : Grid) (k : Conditions) (responses : Field) (outs : ℕ) → boundary_checks n m k responses outs ≡ accepted
    → Coupled m (length responses.values) n.faces × Bounded (bounds_of k) n.faces × (outs ≡ n.faces)
unfolding boundary_checks
boundary_passed n m k responses outs h =
    let bound = conditions_sized n.faces k.codes k.values in
    let s = all_accepted _ h in
    let w = and_true (grid_sized n m && bound && eqb (length responses.values) n.cells) (eqb outs n.faces) (passed WrongLength _ (s 1)) in
    let v = and_true (grid_sized n m && bound) (eqb (length responses.values) n.cells) w.0 in
    let linked = links_coupled n m k v.0 (s 3) in
    (coupled_by m n.cells n.faces (length responses.values) (eqb-true _ _ v.1) linked.0, linked.1, eqb-true _ _ w.1)

pub record Corrected (n : Counts) (adjacency : List ℕ) (k : Conditions) (l : Fields) (outs : ℕ) : Type 0 where
  pub correctable : CorrectableFaces n.faces adjacency k.codes k.values l.coefficients.values l.correction.values
  pub predicted : length l.predicted.values ≡ n.faces
  pub out : outs ≡ n.faces

pub correction_passed : (n : Counts) (adjacency : List ℕ) (k : Conditions) (l : Fields) (outs : ℕ) → correction_checks n adjacency k l outs ≡ accepted → Corrected n adjacency k l outs
unfolding correction_checks
correction_passed n adjacency k l outs h =
    let s = all_accepted _ h in
    let linked = links_passed n.cells adjacency k.codes (s 3) in
    let w = every_at (correction_sizes n adjacency k l outs) (passed WrongLength _ (s 1)) in
    let t = and_true (eqb (length k.codes) (2 * n.faces)) (eqb (length k.values) (4 * n.faces)) (w 0) in
    let a : length adjacency ≡ 2 * n.faces = eqb-true _ _ (w 1) in
    let x : length l.correction.values ≡ n.cells = eqb-true _ _ (w 4) in
    let codes : length k.codes ≡ 2 * n.faces = eqb-true _ _ t.0 in
    record {
      correctable = record {
        adjacency = a;
        codes = codes;
        values = eqb-true _ _ t.1;
        coefficients = eqb-true _ _ (w 3);
        sides = λ f b. rw x (linked.0 f (omega (arith, a, b)));
        peers = λ f b. peer_below adjacency k.codes n.faces f codes (linked.2 f (omega (arith, codes, b)));
        links = λ f b some. (linked.2 f (omega (arith, codes, b)) some).one_cell;
      };
      predicted = eqb-true _ _ (w 2);
      out = eqb-true _ _ (w 5);
    }

-- ---- the outflows and their metrics

pub record Metered (n : Counts) (adjacency : List ℕ) (places : List Float) (flux : Field) (outs two : ℕ) : Type 0 where
  pub flows : Flows n.cells adjacency flux.values
  pub places_size : length places ≡ 4 * outs
  pub few : outs ≤ largest_count
  pub pair : two ≡ 2
  pub cells : outs ≡ n.cells

pub metrics_passed : (n : Counts) (adjacency : List ℕ) (places : List Float) (flux : Field) (outs two : ℕ) → metrics_checks n adjacency places flux outs two ≡ accepted → Metered n adjacency places flux outs two
unfolding metrics_checks
metrics_passed n adjacency places flux outs two h =
    let s = all_accepted _ h in
    let w = every_at (metrics_sizes n adjacency places flux outs two) (passed WrongLength _ (s 1)) in
    let p : length places ≡ 4 * n.cells = eqb-true _ _ (w 1) in
    let o : outs ≡ n.cells = eqb-true _ _ (w 3) in
    let few = (small n (passed BadSize _ (s 0))).cells in
    record {
      flows = flows_by n.cells n.faces adjacency flux.values n.cells (eqb-true _ _ (w 0)) (eqb-true _ _ (w 2)) refl (sides_passed n.cells adjacency (s 3)).0;
      places_size = omega (arith, p, o);
      few = omega (arith, few, o);
      pair = eqb-true _ _ (w 4);
      cells = o;
    }

-- ---- the prediction

pub record Predictable (n : Counts) (m : Grid) (records : ℕ) (s : Slices) (l : FlowFields) (slopes outs : ℕ) : Type 0 where
  pub sloped : Sloped s records l.pressure.values
  pub coupled : Coupled m (length l.responses.values) n.faces
  pub velocity : length l.velocity.values ≡ 3 * length l.pressure.values
  pub responses : length l.responses.values ≡ length l.pressure.values
  pub walls : length l.walls.values ≡ n.faces
  pub gradient : slopes ≡ 3 * length l.pressure.values
  pub out : outs ≡ length l.walls.values
  pub cells : length l.pressure.values ≡ n.cells

pub prediction_passed : (n : Counts) (m : Grid) (stencil records : ℕ) (s : Slices) (l : FlowFields) (slopes outs : ℕ) → prediction_checks n m stencil records s l slopes outs ≡ accepted → Predictable n m records s l slopes outs
unfolding prediction_checks
prediction_passed n m stencil records s l slopes outs h =
    let held = stencil_sized n.cells records (lengths_of s) in
    let flowing = flow_sized n (sizes_of l) slopes outs in
    let q = all_accepted _ h in
    let w = and_true (grid_sized n m && held) flowing (passed WrongLength _ (q 1)) in
    let v = and_true (grid_sized n m) held w.0 in
    let z = gridded n m v.0 in
    let good = grid_with_equations_passed n m.adjacency m.geometry m.places s.equations s.starts z (q 3) in
    let u = every_at (flow_sizes n (sizes_of l) slopes outs) w.1 in
    let y : length l.velocity.values ≡ 3 * n.cells = eqb-true _ _ (u 0) in
    let p : length l.pressure.values ≡ n.cells = eqb-true _ _ (u 1) in
    let r : length l.responses.values ≡ n.cells = eqb-true _ _ (u 2) in
    let x : length l.walls.values ≡ n.faces = eqb-true _ _ (u 3) in
    let g : slopes ≡ 3 * n.cells = eqb-true _ _ (u 4) in
    let o : outs ≡ n.faces = eqb-true _ _ (u 5) in
    record {
      sloped = slopes_by n.cells records s l.pressure.values v.1 p good.1;
      coupled = coupled_by m n.cells n.faces (length l.responses.values) r (coupled n m z good.0 good.2);
      velocity = omega (arith, y, p);
      responses = r ∙ sym p;
      walls = x;
      gradient = omega (arith, g, p);
      out = o ∙ sym x;
      cells = p;
    }
