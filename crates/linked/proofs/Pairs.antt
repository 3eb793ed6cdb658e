-- How an accepted prediction of links leaves the faces of a pair, and all others. Assumes nothing.
use Rattle.refusal.specs.declared.Reason.TheVariants.{BadCoefficient}
use Rattle.std.specs.Prelude.{Ok, Err}
use mathlib.Core.Path.{◌≡◌, refl, sym, ap, subst, ◌∙◌}
use mathlib.Core.Logic.{⊎_elim}
use mathlib.Core.Bool.{Bool, true, false, cond}
use mathlib.Core.List.{List}
use Prim.Native.Nat.{ℕ, suc, ◌+◌, ◌-◌, ◌<◌}
use native.Mathlib.Nat.{eq-or-lt_of_le}
use native.Mathlib.Omega.{arith}
use lib.Dec.{T, eqb-suc-zero}
use lib.ListN.{length, get_or, set}
use lib.Seq.{get_or-set_same, get_or-set_other}
use lib.Ieee.{Float, nan, neg}
use lib.Ieee.Scale.{finite}
use borrow.Author.Tests.{lt-ltb, le-ltb}
use Rattle.binary64.specs.Numbers.{is_finite}
use Rattle.coupling.specs.Face.{predicted_flux}
use Rattle.mesh.specs.Answers.{Outcome, accepted}
use Rattle.mesh.specs.Pass.{value_of}
use Rattle.mesh.specs.Records.{peer_at}
use Rattle.mesh.proofs.Values.{length-list_of, get_or-list_of, value_at}
use Rattle.linked.specs.Linked.{Links, own_flux, if_own, linked_at, linked_answer, linked_fluxes}

less : (n : ℕ) → suc n - 1 ≡ n
less n = omega arith

value_of_own : (s : Outcome) (v w : Float) → if_own s v ≡ Ok w → w ≡ v
unfolding if_own
value_of_own (Ok own) v w e = cc
value_of_own (Err k) v w e = cc

own_accepted : (s : Outcome) (v w : Float) → if_own s v ≡ Ok w → s ≡ Ok (value_of s)
unfolding if_own value_of
own_accepted (Ok own) v w e = refl
own_accepted (Err k) v w e = cc

-- a flux that is not refused is finite
ok_finite : (x v : Float) → cond (is_finite x) (Ok x) (Err BadCoefficient) ≡ Ok v → T (finite v)
ok_finite x v e = go (is_finite x) refl e
  where
    go : (b : Bool) → is_finite x ≡ b → cond b (Ok x) (Err BadCoefficient) ≡ Ok v → T (finite v)
    go true is e = let same : x ≡ v = cc in subst (λ (y : Float). T (finite y)) same (subst T (sym is) tt)
    go false is e = cc

own_finite : (d : Links) (f : ℕ) → own_flux d f ≡ Ok (value_of (own_flux d f)) → T (finite (value_of (own_flux d f)))
unfolding own_flux predicted_flux
own_finite d f e = ok_finite _ _ e

module _ (d : Links) (p : List Float) where
  pub size : length (linked_fluxes d p) ≡ length p
  size = length-list_of (λ (i : ℕ). value_of (linked_at d p i)) (length p)

  -- a face without a link
  pub unlinked_at : (f : ℕ) → peer_at d.bounds.codes f ≡ 0 → linked_at d p f ≡ Ok (get_or p f nan)
  unfolding linked_at
  unlinked_at f e = rw e

  pub unlinked : (f : ℕ) → f < length p → peer_at d.bounds.codes f ≡ 0 → get_or (linked_fluxes d p) f nan ≡ get_or p f nan
  unfolding value_of
  unlinked f l e = get_or-list_of (λ (i : ℕ). value_of (linked_at d p i)) (length p) f l ∙ ap value_of (unlinked_at f e)

  -- the lower face of a pair, and the higher
  pub lower_at : (f g : ℕ) → peer_at d.bounds.codes f ≡ suc g → f < g → linked_at d p f ≡ if_own (own_flux d f) (value_of (own_flux d f))
  unfolding linked_at
  lower_at f g e l = rw (e, eqb-suc-zero g, less g, le-ltb g f (omega (arith, l)))

  pub higher_at : (f g : ℕ) → peer_at d.bounds.codes g ≡ suc f → f < g → linked_at d p g ≡ if_own (own_flux d g) (neg (value_of (own_flux d f)))
  unfolding linked_at
  higher_at f g e l = rw (e, eqb-suc-zero f, less f, lt-ltb f g l)

  -- the lower's flux is finite, and the higher has that negated
  pub negated : (f g : ℕ) → linked_answer d p ≡ accepted → g < length p → f < g → peer_at d.bounds.codes f ≡ suc g → peer_at d.bounds.codes g ≡ suc f
      → T (finite (get_or (linked_fluxes d p) f nan)) × (get_or (linked_fluxes d p) g nan ≡ neg (get_or (linked_fluxes d p) f nan))
  negated f g ok l b there back =
      let low = value_at (linked_at d p) (length p) f ok (omega (arith, l, b)) in
      let high = value_at (linked_at d p) (length p) g ok l in
      let mine = sym (lower_at f g there b) ∙ low.1 in
      let own = low.2 ∙ value_of_own _ _ _ mine in
      let other = high.2 ∙ value_of_own _ _ _ (sym (higher_at f g back b) ∙ high.1) in
      (subst (λ (v : Float). T (finite v)) (sym own) (own_finite d f (own_accepted (own_flux d f) _ _ mine)), other ∙ ap neg (sym own))

  -- what the lower has is its own
  pub lower_has : (f g : ℕ) (v : Float) → peer_at d.bounds.codes f ≡ suc g → f < g → linked_at d p f ≡ Ok v → v ≡ value_of (own_flux d f)
  lower_has f g v e l ok = value_of_own _ _ _ (sym (lower_at f g e l) ∙ ok)

-- ---- the pass

-- one more item that stands in its place already
pub one_left : (g : ℕ → Outcome) (l : List Float) (i : ℕ) → g i ≡ Ok (get_or l i nan) → ((k : ℕ) → k < i → g k ≡ Ok (get_or l k nan))
    → (k : ℕ) → k < i + 1 → g k ≡ Ok (get_or l k nan)
one_left g l i e done k b =
    ⊎_elim (λ (same : k ≡ i). subst (λ (j : ℕ). g j ≡ Ok (get_or l j nan)) (sym same) e) (λ (less : k < i). done k less) (eq-or-lt_of_le (omega (arith, b)))

-- and one that is written there
pub one_more : (g : ℕ → Outcome) (l : List Float) (i : ℕ) (v : Float) → i < length l → g i ≡ Ok v → ((k : ℕ) → k < i → g k ≡ Ok (get_or l k nan))
    → (k : ℕ) → k < i + 1 → g k ≡ Ok (get_or (set l i v) k nan)
one_more g l i v room e done =
    one_left g (set l i v) i (e ∙ ap Ok (sym (get_or-set_same l i v nan room)))
    (λ k b. done k b ∙ ap Ok (sym (get_or-set_other l i k v nan (λ (z : k ≡ i). omega (arith, b, z)))))

-- a face reads nothing but its own flux of those that stand there
pub reads_one : (d : Links) (p q : List Float) (f : ℕ) → get_or p f nan ≡ get_or q f nan → linked_at d p f ≡ linked_at d q f
unfolding linked_at
reads_one d p q f e = rw e
