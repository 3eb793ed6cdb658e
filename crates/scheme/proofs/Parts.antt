-- What each part of the step asks for, from what the checks of the whole establish. Assumes nothing.
use Rattle.std.specs.Prelude.{Ok, Err}
use mathlib.Core.Path.{◌≡◌, refl, sym, ap, ◌∙◌, subst}
use mathlib.Core.List.{List, [], ◌∷◌}
use Prim.Native.Nat.{ℕ, suc, ◌+◌, ◌-◌, ◌*◌, ◌<◌}
use native.Mathlib.Omega.{arith}
use lib.ListN.{length, get_or, replicate, length-replicate}
use lib.Ieee.{Float, nan}
use Rattle.mesh.specs.Answers.{or_else, first_of, Answer, accepted}
use Rattle.mesh.specs.Pass.{value_of}
use Rattle.mesh.specs.Mesh.{bounds_of}
use Rattle.mesh.specs.Records.{neighbour_at, peer_at}
use Rattle.mesh.proofs.Facts.{both_accepted, peer_below}
use Rattle.mesh.proofs.Values.{length-list_of, get_or-list_of}
use Rattle.numerics.specs.Slices.{Slices}
use Rattle.numerics.specs.Gradient.{Sloped, gradients}
use Rattle.stencil.specs.Lent.{Lent, lent_of, Buildable}
use Rattle.numerics.specs.Outflow.{Flows, outflows}
use Rattle.numerics.proofs.Scatter.{length-scatter}
use Rattle.binary64.specs.Numbers.{zero64}
use Rattle.stencil.specs.Stencil.{SlicesSized, stencil_answer, stencil_slices}
use Rattle.stencil.proofs.inner.build.Sound.{accepted_sound}
use Rattle.predictor.specs.Boundary.{Begun, boundary_answer, coefficient_at}
use Rattle.corrector.specs.Correction.{Correcting, correcting, Correctable, CorrectableFaces, corrected_flux_at, correction_answer}
use Rattle.predictor.specs.Coefficients.{coefficient_answer, coefficients}
use Rattle.coupling.specs.Grid.{Grid}
use Rattle.linked.specs.Linked.{links, linked_answer, Paired}
use Rattle.linked.proofs.Pairs as linked
use Rattle.corrector.specs.Metrics.{metrics_of, metrics_answer}
use Rattle.predictor.specs.Prediction.{Flow, flow, predicted_at, prediction_answer}
use Rattle.scheme.specs.Step.{Inputs, Lendable, grid_of, stencil_of, gradient_of, flow_of, unlinked_of, links_of, predicted_of, coefficients_of, correcting_of, fluxes_of, outflows_of, finite_answer, work_answer}

-- after an accepted prediction the coefficients of the faces with two cells are there
pub begun : (m : Grid) (q : Flow) (walls l : List Float) → prediction_answer m q walls ≡ accepted → length l ≡ length walls → l ≡ coefficients m q.responses (length walls) → Begun m q.responses l
begun m q walls l ok e is = (rw e (both_accepted (coefficient_answer m q.responses (length walls)) _ ok).0, is ∙ ap (coefficients m q.responses) (sym e))

-- ---- the stencil

-- one that was accepted serves for a gradient
pub sloped : (l : Lent) (records : ℕ) (s : Slices) (p : List Float) → Buildable l → stencil_answer l records ≡ accepted → s ≡ stencil_slices l records
    → length s.starts ≡ l.mesh.counts.cells → length s.equations ≡ 2 * records → length s.weights ≡ 4 * records → length s.inverses ≡ 9 * l.mesh.counts.cells
    → length p ≡ l.mesh.counts.cells → Sloped s records p
sloped l records s p good ok is ls le lw li lp = record {
  starts = ls ∙ sym lp;
  equations = le;
  weights = lw;
  inverses = omega (arith, li, lp);
  chains = λ c h. rw (is, lp) (accepted_sound l records good (sym ok) c (omega (arith, h, lp)));
}

-- ---- the answers

-- the seven answers, the last two together
pub regrouped : (a b c e f g h : Answer) → first_of (a ∷ b ∷ c ∷ e ∷ f ∷ g ∷ h ∷ []) ≡ or_else a (or_else b (or_else c (or_else e (or_else f (or_else g h)))))
unfolding first_of or_else
regrouped (Err x) b c e f g h = refl
regrouped (Ok u0) (Err x) c e f g h = refl
regrouped (Ok u0) (Ok u1) (Err x) e f g h = refl
regrouped (Ok u0) (Ok u1) (Ok u2) (Err x) f g h = refl
regrouped (Ok u0) (Ok u1) (Ok u2) (Ok u3) (Err x) g h = refl
regrouped (Ok u0) (Ok u1) (Ok u2) (Ok u3) (Ok u4) (Err x) h = refl
regrouped (Ok u0) (Ok u1) (Ok u2) (Ok u3) (Ok u4) (Ok u5) (Err x) = refl
regrouped (Ok u0) (Ok u1) (Ok u2) (Ok u3) (Ok u4) (Ok u5) (Ok u6) = refl

-- ---- the parts of one step

module _ (d : Inputs) (ready : Lendable d) where
  abbrev faces : ℕ
  faces = d.mesh.counts.faces

  abbrev cells : ℕ
  cells = d.mesh.counts.cells

  pub unlinked_size : length (unlinked_of d) ≡ faces
  unlinked_size = length-list_of (λ (i : ℕ). value_of (predicted_at (grid_of d) (flow_of d) d.walls.values i)) (length d.walls.values) ∙ ready.walls

  pub predicted_size : length (predicted_of d) ≡ faces
  predicted_size = linked.size (links_of d) (unlinked_of d) ∙ unlinked_size

  pub coefficients_size : length (coefficients_of d) ≡ faces
  coefficients_size = length-list_of (λ (i : ℕ). value_of (coefficient_at (grid_of d) (bounds_of d.conditions) d.responses.values i)) faces

  pub fluxes_size : length (fluxes_of d) ≡ faces
  fluxes_size = length-list_of (λ (i : ℕ). value_of (corrected_flux_at (correcting_of d) i)) (length (predicted_of d)) ∙ predicted_size

  pub outflows_size : length (outflows_of d) ≡ cells
  unfolding outflows
  outflows_size = length-scatter _ (replicate cells zero64) _ ∙ length-replicate cells zero64

  -- the predicted flux of an unlinked face with one cell is its wall flux
  pub wall_kept : (f : ℕ) → f < faces → neighbour_at d.mesh.adjacency f ≡ 0 → peer_at d.conditions.codes f ≡ 0 → get_or (predicted_of d) f nan ≡ get_or d.walls.values f nan
  unfolding predicted_at value_of
  wall_kept f l e free =
      linked.unlinked (links_of d) (unlinked_of d) f (omega (arith, l, unlinked_size)) free
      ∙ get_or-list_of (λ (i : ℕ). value_of (predicted_at (grid_of d) (flow_of d) d.walls.values i)) (length d.walls.values) f (omega (arith, l, ready.walls)) ∙ rw e

  -- the links, by check 6
  pub paired : Paired d.conditions.codes faces
  paired f g l e =
      let link = ready.good.sound.links f l (λ z. let w : suc g ≡ 0 = sym e ∙ z in absurd (omega arith)) in
      let back : peer_at d.conditions.codes (suc g - 1) ≡ f + 1 = subst (λ (p : ℕ). peer_at d.conditions.codes (p - 1) ≡ f + 1) e link.back in
      let less : suc g - 1 ≡ g = omega arith in
      let one : f + 1 ≡ suc f = omega arith in
      subst (λ (p : ℕ). peer_at d.conditions.codes p ≡ f + 1) less back ∙ one

  pub below : (f : ℕ) → f < length (predicted_of d) → f < faces
  below f l = subst (λ (n : ℕ). f < n) predicted_size l

  pub correctable : Correctable (correcting_of d)
  correctable = record {
    adjacency = omega (arith, ready.good.sized.adjacency, predicted_size);
    codes = omega (arith, ready.good.codes, predicted_size);
    values = omega (arith, ready.good.values, predicted_size);
    coefficients = coefficients_size ∙ sym predicted_size;
    sides = λ f l. rw ready.correction (ready.good.sound.faces f (below f l));
    peers = λ f l. rw predicted_size (peer_below d.mesh.adjacency d.conditions.codes faces f ready.good.codes (ready.good.sound.links f (below f l)));
    links = λ f l n. (ready.good.sound.links f (below f l) n).one_cell;
  }

  pub correctable_by : (k : List Float) → k ≡ coefficients_of d → CorrectableFaces faces d.mesh.adjacency d.conditions.codes d.conditions.values k d.correction.values
  correctable_by k e =
      let by : ℕ → List Float → Type 0 = λ n k. CorrectableFaces n d.mesh.adjacency d.conditions.codes d.conditions.values k d.correction.values in
      subst (by faces) (sym e) (subst (λ (n : ℕ). by n (coefficients_of d)) predicted_size correctable)

  pub flows : Flows cells d.mesh.adjacency (fluxes_of d)
  flows = record { size = omega (arith, ready.good.sized.adjacency, fluxes_size); faces = λ f l. ready.good.sound.faces f (omega (arith, l, fluxes_size)) }

  pub lent-stencil : Buildable (lent_of d.mesh d.conditions)
  lent-stencil = record { sized = ready.good.sized; codes = ready.good.codes; values = ready.good.values; sound = ready.good.sound }

  -- the stencil that was accepted, in slices s, serves for the gradient of the pressure
  pub slope_by : (s : Slices) (records : ℕ) → stencil_answer (lent_of d.mesh d.conditions) d.records ≡ accepted → s ≡ stencil_of d → records ≡ d.records
      → SlicesSized (lent_of d.mesh d.conditions) d.records s → Sloped s records d.pressure.values
  slope_by s records ok is e z =
      rw e (sloped (lent_of d.mesh d.conditions) d.records s d.pressure.values lent-stencil ok is z.starts z.equations z.weights z.inverses ready.pressure)

  -- what the parts say, by what they are lent, is what the step says
  pub gradient_by : (s : Slices) (records n : ℕ) → s ≡ stencil_of d → records ≡ d.records → n ≡ cells → gradients s records d.pressure.values n ≡ gradient_of d
  gradient_by s records n es er en = rw (es, er, en)

  abbrev pub stencil_part : Answer
  stencil_part = stencil_answer (lent_of d.mesh d.conditions) d.records

  abbrev pub prediction_part : Answer
  prediction_part = prediction_answer (grid_of d) (flow_of d) d.walls.values

  -- the links, of a gradient g and coefficients k
  pub links_is : (g k : List Float) → g ≡ gradient_of d → k ≡ coefficients_of d
      → links (grid_of d) (bounds_of d.conditions) (flow d.velocity.values d.pressure.values g d.responses.values) k ≡ links_of d
  links_is g k eg ek = rw (eg, ek)

  -- the correction, of predicted fluxes p and coefficients k
  abbrev correcting_by : List Float → List Float → Correcting
  correcting_by p k = correcting d.mesh.adjacency d.conditions.codes d.conditions.values p k d.correction.values

  pub correcting_is : (p k : List Float) → p ≡ predicted_of d → k ≡ coefficients_of d → correcting_by p k ≡ correcting_of d
  correcting_is p k ep ek = rw (ep, ek)

  abbrev pub coefficients_part : Answer
  coefficients_part = boundary_answer (grid_of d) (bounds_of d.conditions) d.responses.values faces

  abbrev pub links_part : Answer
  links_part = linked_answer (links_of d) (unlinked_of d)

  abbrev pub correction_part : Answer
  correction_part = correction_answer (correcting_of d)

  -- the outflows, of fluxes l and n cells
  pub flows_by : (l : List Float) (n : ℕ) → l ≡ fluxes_of d → n ≡ cells → Flows n d.mesh.adjacency l
  flows_by l n el en = rw (el, en) flows

  pub outflows_is : (l : List Float) (n : ℕ) → l ≡ fluxes_of d → n ≡ cells → outflows n d.mesh.adjacency l ≡ outflows_of d
  outflows_is l n el en = ap (outflows n d.mesh.adjacency) el ∙ ap (λ (k : ℕ). outflows k d.mesh.adjacency (fluxes_of d)) en

  abbrev pub measured_part : List Float → Answer
  measured_part o = or_else (metrics_answer (metrics_of d.mesh.places o)) (finite_answer o)

  -- the answer of the step
  pub work_is : work_answer d ≡ or_else stencil_part (or_else prediction_part (or_else coefficients_part (or_else links_part (or_else correction_part (measured_part (outflows_of d))))))
  unfolding work_answer
  work_is = regrouped _ _ _ _ _ _ _
