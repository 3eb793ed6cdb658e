-- An accepted step meets demand 3. Assumes nothing.
use Rattle.std.specs.Prelude.{Option, None, Some}
use mathlib.Core.Path.{◌≡◌, refl, sym, ap, subst, ◌∙◌}
use mathlib.Core.Logic.{inl, inr}
use Prim.Native.Nat.{ℕ, suc, ◌<◌}
use native.Mathlib.Nat.{eq-or-lt_of_le}
use native.Mathlib.Omega.{arith}
use lib.Dec.{T}
use lib.ListN.{length, get_or}
use lib.Ieee.{Float, nan, binary64, fits, neg}
use lib.Ieee.Scale.{finite}
use borrow.Author.Tests.{not-false}
use Rattle.std.proofs.lemmas.Bool.Decides.{leb_tells}
use Rattle.binary64.specs.Numbers.{is_finite}
use Rattle.binary64.specs.Units.{Opposite}
use Rattle.binary64.proofs.Opposites.{neg-neg}
use Rattle.mesh.specs.Answers.{or_else, accepted}
use Rattle.chain.specs.Search.{lowest_where}
use Rattle.mesh.proofs.Facts.{both_accepted}
use Rattle.mesh.proofs.Values.{value_at}
use Rattle.chain.proofs.Search.{none_below}
use Rattle.numerics.specs.Outflow.{faces_of}
use Rattle.balance.proofs.Closes.{balances}
use Rattle.balance.proofs.Few.{quoted}
use Rattle.balance.specs.Balance.{Balanced}
use Rattle.linked.specs.Linked.{linked_answer}
use Rattle.linked.proofs.Pairs.{negated}
use Rattle.corrector.specs.Correction.{corrected_flux_at, correction_answer}
use Rattle.corrector.specs.Metrics.{metrics_of, metrics_answer}
use Rattle.corrector.specs.Promise.{Linked, KeepsFree, Promise, boundary_of}
use Rattle.corrector.proofs.Promised.{promised}
use Rattle.scheme.specs.Step.{Inputs, Lendable, unlinked_of, links_of, predicted_of, correcting_of, fluxes_of, outflows_of, spilled, endless, finite_answer, work_answer}
use Rattle.scheme.specs.Demand.{walls_of, PredictsOpposite, LeavesOpposite, DemandThree}
use Rattle.scheme.proofs.Fitting.{value_fits}
use Rattle.scheme.proofs.Parts.{unlinked_size, predicted_size, fluxes_size, outflows_size, wall_kept, below, correctable, flows, work_is, stencil_part, prediction_part, coefficients_part, links_part, correction_part, measured_part}

nothing_spilled : (f : Option ℕ) → spilled f ≡ accepted → f ≡ None
unfolding spilled
nothing_spilled None h = refl
nothing_spilled (Some c) h = cc

module _ (d : Inputs) (ready : Lendable d) where
  abbrev faces : ℕ
  faces = d.mesh.counts.faces

  abbrev cells : ℕ
  cells = d.mesh.counts.cells

  module _ (ok : work_answer d ≡ accepted) where
    on_from_links : or_else (links_part d ready) (or_else (correction_part d ready) (measured_part d ready (outflows_of d))) ≡ accepted
    on_from_links =
        let one = both_accepted (stencil_part d ready) _ (sym (work_is d ready) ∙ ok) in
        let two = both_accepted (prediction_part d ready) _ one.1 in
        (both_accepted (coefficients_part d ready) _ two.1).1

    links_ok : linked_answer (links_of d) (unlinked_of d) ≡ accepted
    links_ok = (both_accepted (links_part d ready) _ on_from_links).0

    on_from_correction : or_else (correction_part d ready) (measured_part d ready (outflows_of d)) ≡ accepted
    on_from_correction = (both_accepted (links_part d ready) _ on_from_links).1

    corrected_ok : correction_answer (correcting_of d) ≡ accepted
    corrected_ok = (both_accepted (correction_part d ready) _ on_from_correction).0

    finite_ok : finite_answer (outflows_of d) ≡ accepted
    finite_ok =
        let measured = (both_accepted (correction_part d ready) _ on_from_correction).1 in
        (both_accepted (metrics_answer (metrics_of d.mesh.places (outflows_of d))) _ measured).1

    finite_outflows : (c : ℕ) → c < length (outflows_of d) → T (finite (get_or (outflows_of d) c nan))
    finite_outflows c l =
        let e = none_below (endless (outflows_of d)) (length (outflows_of d)) c (nothing_spilled (lowest_where (endless (outflows_of d)) (length (outflows_of d))) finite_ok) l in
        subst T (sym (not-false (is_finite (get_or (outflows_of d) c nan)) e)) tt

    above : (f : ℕ) → f < faces → f < length (predicted_of d)
    above f l = subst (λ (n : ℕ). f < n) (sym (predicted_size d ready)) l

    promise : Promise (boundary_of (correcting_of d)) (fluxes_of d)
    promise = promised (correcting_of d) (correctable d ready) corrected_ok

    kept : KeepsFree (walls_of d) (fluxes_of d)
    kept f l e = promise.free f (above f l) e ∙ wall_kept d ready f l e.0 e.1

    paired : PredictsOpposite (walls_of d) (predicted_of d)
    paired f g l b e = negated (links_of d) (unlinked_of d) f g links_ok (subst (λ (n : ℕ). g < n) (sym (unlinked_size d ready)) l) b e.0 e.1

    predicted_opposite : (f g : ℕ) → f < faces → g < faces → Linked (walls_of d) f g → Opposite (get_or (predicted_of d) f nan) (get_or (predicted_of d) g nan)
    predicted_opposite f g hf hg e = elim (leb_tells g f) [
      | inr below ↦ inl (sym (neg-neg _) ∙ ap neg (sym (paired f g hg below.1 e).1))
      | inl n ↦
          elim (eq-or-lt_of_le n.1) [
            | inl same ↦
                let link = ready.good.sound.links f hf (λ z. let w : suc g ≡ 0 = sym e.0 ∙ z in absurd (omega arith)) in
                absurd (link.other (e.0 ∙ omega (arith, same)))
            | inr b ↦ inl (paired g f hf b (e.1, e.0)).1
          ]
    ]

    opposite : LeavesOpposite (walls_of d) (fluxes_of d)
    opposite f g hf hg e k = promise.opposite f g (above f hf) (above g hg) e (predicted_opposite f g hf hg e) k

    -- every flux is a number of binary64, where the wall fluxes are
    fluxes_fit : ((f : ℕ) → f < length d.walls.values → T (fits binary64 (get_or d.walls.values f nan)))
        → (f : ℕ) → f < length (fluxes_of d) → T (fits binary64 (get_or (fluxes_of d) f nan))
    fluxes_fit fit f l =
        let h : f < length (predicted_of d) = omega (arith, l, fluxes_size d ready, predicted_size d ready) in
        let b = below d ready f h in
        let w = value_at (corrected_flux_at (correcting_of d)) (length (predicted_of d)) f corrected_ok h in
        let is : Float → Type 0 = λ x. T (fits binary64 x) in
        let wall = fit f (omega (arith, b, ready.walls)) in
        subst is (sym w.2) (value_fits (correcting_of d) f (λ e free. subst is (sym (wall_kept d ready f b e free)) wall) w.0 w.1)

  -- every flux is a number of binary64, as the slice that holds it says
  module _ (fit : (f : ℕ) → f < length (fluxes_of d) → T (fits binary64 (get_or (fluxes_of d) f nan))) (ok : work_answer d ≡ accepted) where
    balanced : Balanced (faces_of d.mesh.adjacency (fluxes_of d)) faces (outflows_of d)
    balanced = subst (λ (n : ℕ). Balanced (faces_of d.mesh.adjacency (fluxes_of d)) n (outflows_of d)) (fluxes_size d ready) (balances cells d.mesh.adjacency (fluxes_of d) (flows d ready) fit (finite_outflows ok))

    pub demanded : DemandThree d (predicted_of d) (fluxes_of d) (outflows_of d)
    demanded = record {
      fluxes = fluxes_size d ready;
      outflows = outflows_size d ready;
      finite_outflows = finite_outflows ok;
      balanced = balanced;
      quotable = quoted cells d.mesh.adjacency (fluxes_of d) (outflows_of d) faces (flows d ready) ready.good.sound.few (fluxes_size d ready) (outflows_size d ready) balanced;
      kept = kept ok;
      paired = paired ok;
      opposite = opposite ok;
    }

  -- every wall flux is a number of binary64, as the slice that lends it says
  pub demanded_of_walls : ((f : ℕ) → f < length d.walls.values → T (fits binary64 (get_or d.walls.values f nan))) → work_answer d ≡ accepted
      → DemandThree d (predicted_of d) (fluxes_of d) (outflows_of d)
  demanded_of_walls fit ok = demanded (fluxes_fit ok fit) ok
