-- An accepted correction keeps the flux of unlinked one-cell zero-gradient faces, and leaves linked faces with opposite fluxes. Assumes nothing.
use Rattle.refusal.specs.declared.Reason.TheVariants.{BadCoefficient}
use Rattle.mesh.specs.Answers.{Outcome, accepted}
use Rattle.std.specs.Prelude.{Ok, Err}
use mathlib.Core.Path.{◌≡◌, refl, sym, ap, ◌∙◌, subst}
use mathlib.Core.Bool.{Bool, true, false, not, ◌&&◌, cond}
use Prim.Native.Nat.{ℕ, suc, ◌-◌}
use native.Mathlib.Omega.{arith}
use lib.Dec.{T, eqb-suc-zero}
use lib.ListN.{length, get_or}
use lib.Ieee.{Float, nan, binary64, le}
use lib.Ieee.Scale.{finite}
use Rattle.binary64.specs.Numbers.{zero64, is_finite, ◌⊖◌, ◌⊗◌}
use Rattle.binary64.specs.Units.{Opposite}
use Rattle.binary64.proofs.Opposites.{sub_swap, sub_opposed, mul_opposed}
use Rattle.chain.specs.Pairs.{first_at, second_at}
use Rattle.mesh.proofs.Values.{value_at}
use Rattle.coupling.specs.Face.{corrected_flux}
use Rattle.corrector.specs.Correction.{Correcting, Correctable, wall_flux, corrected_flux_at, correction_answer, corrected_fluxes}
use Rattle.corrector.specs.Promise.{Free, KeepsFree, KeepsOpposite, Promise, boundary_of}

same_value : (s : Outcome) (v w : Float) → s ≡ Ok v → s ≡ Ok w → v ≡ w
same_value s v w p q = cc

-- ---- a face that keeps its flux
free_flux : (m : Correcting) (f : ℕ) → Free (boundary_of m) f → corrected_flux_at m f ≡ Ok (get_or m.predicted f nan)
unfolding corrected_flux_at wall_flux
free_flux m f h = rw (h.0, h.1, h.2)

keeps_free : (m : Correcting) → correction_answer m ≡ accepted → KeepsFree (boundary_of m) (corrected_fluxes m)
keeps_free m ok f h e =
    let w = value_at (corrected_flux_at m) (length m.predicted) f ok h in
    w.2 ∙ same_value (corrected_flux_at m f) w.0 (get_or m.predicted f nan) w.1 (free_flux m f e)

-- ---- a linked pair
corrected_is : (p k o w v : Float) → corrected_flux p k o w ≡ Ok v → (is_finite k ≡ true) × (v ≡ p ⊖ k ⊗ (o ⊖ w))
unfolding corrected_flux
corrected_is p k o w v h = go (is_finite k) (not (le k zero64)) (is_finite (p ⊖ k ⊗ (o ⊖ w))) h
  where
    go : (a b c : Bool) → cond (a && b) (cond c (Ok (p ⊖ k ⊗ (o ⊖ w))) (Err BadCoefficient)) (Err BadCoefficient) ≡ Ok v
        → (a ≡ true) × (v ≡ p ⊖ k ⊗ (o ⊖ w))
    go true true true h = (refl, cc)
    go true true false h = (refl, cc)
    go true false c h = (refl, cc)
    go false b c h = (cc, cc)

linked_flux : (m : Correcting) (f g : ℕ) → second_at m.adjacency f ≡ 0 → second_at m.codes f ≡ suc g
    → let other = get_or m.correction (first_at m.adjacency g) nan in
    let own = get_or m.correction (first_at m.adjacency f) nan in
    corrected_flux_at m f ≡ corrected_flux (get_or m.predicted f nan) (get_or m.coefficients f nan) other own
unfolding corrected_flux_at
linked_flux m f g hn hp = rw (hn, hp, eqb-suc-zero g, less g)
  where
    less : (n : ℕ) → suc n - 1 ≡ n
    less n = omega arith

-- p - k * (b - a) and q - k * (a - b), for opposite p and q
pair : (p q k a b : Float) → T (finite k) → Opposite p q → Opposite (p ⊖ k ⊗ (b ⊖ a)) (q ⊖ k ⊗ (a ⊖ b))
pair p q k a b t h = sub_opposed binary64 q (k ⊗ (a ⊖ b)) p (k ⊗ (b ⊖ a)) h (mul_opposed binary64 k (a ⊖ b) (b ⊖ a) t (sub_swap binary64 b a))

not_none : (q g : ℕ) → q ≡ suc g → q ≡ 0 → ⊥
not_none q g e z = omega arith

keeps_opposite : (m : Correcting) → Correctable m → correction_answer m ≡ accepted → KeepsOpposite (boundary_of m) (corrected_fluxes m)
keeps_opposite m good ok f g hf hg l h k =
    let n = length m.predicted in
    let x = value_at (corrected_flux_at m) n f ok hf in
    let y = value_at (corrected_flux_at m) n g ok hg in
    let a = get_or m.correction (first_at m.adjacency f) nan in
    let b = get_or m.correction (first_at m.adjacency g) nan in
    let p = get_or m.predicted f nan in
    let q = get_or m.predicted g nan in
    let c = get_or m.coefficients f nan in
    let one = linked_flux m f g (good.links f hf (not_none (second_at m.codes f) g l.0)) l.0 in
    let two = linked_flux m g f (good.links g hg (not_none (second_at m.codes g) f l.1)) l.1 in
    let u = corrected_is p c b a x.0 (sym one ∙ x.1) in
    let w = corrected_is q c a b y.0 (ap (λ (z : Float). corrected_flux q z a b) k ∙ sym two ∙ y.1) in
    subst (λ (z : Float). Opposite z (get_or (corrected_fluxes m) g nan)) (sym (x.2 ∙ u.1))
    (subst (λ (z : Float). Opposite (p ⊖ c ⊗ (b ⊖ a)) z) (sym (y.2 ∙ w.1)) (pair p q c a b (subst T (sym u.0) tt) h))

pub promised : (m : Correcting) → Correctable m → correction_answer m ≡ accepted → Promise (boundary_of m) (corrected_fluxes m)
promised m good ok = record { free = keeps_free m ok; opposite = keeps_opposite m good ok }
