-- The terms of a cell: they are values of binary64 where the fluxes are, and finite where the outflow is. Assumes nothing.
use mathlib.Core.Path.{◌≡◌, sym, ap, ◌∙◌, subst}
use mathlib.Core.Logic.{⊎_elim}
use mathlib.Core.List.{List, [], ◌∷◌, ◌++◌}
use mathlib.Core.Bool.{Bool, true, false}
use Prim.Native.Nat.{ℕ, zero, suc, ◌<◌}
use native.Mathlib.Omega.{arith}
use native.Mathlib.Nat.{eq-or-lt_of_le, le_of_suc-le-suc}
use borrow.Author.Tests.{eq-eqb}
use lib.Dec.{T, eqb}
use lib.Ieee.{Float, binary64, neg, fits}
use lib.Ieee.Fits.{neg-fits}
use lib.Ieee.Scale.{finite}
use Rattle.binary64.specs.Units.{AllFit, AllFinite}
use Rattle.numerics.specs.Outflow.{Faces, only, up_to, face_terms}

-- ---- the terms fit
fit_append : (xs ys : List Float) → AllFit binary64 xs → AllFit binary64 ys → AllFit binary64 (xs ++ ys)
fit_append [] ys p q = q
fit_append (x ∷ xs) ys p q = (p.0, fit_append xs ys p.1 q)

fit_only : (b : Bool) (x : Float) → T (fits binary64 x) → AllFit binary64 (only b x)
fit_only true x t = (t, tt)
fit_only false x t = tt

pub fit_terms : (m : Faces) (c k : ℕ) → ((f : ℕ) → f < k → T (fits binary64 (m.flux f))) → AllFit binary64 (up_to (face_terms m c) k)
unfolding up_to face_terms
fit_terms m c zero t = tt
fit_terms m c (suc k) t =
    let x = m.flux k in
    let s : T (fits binary64 x) = t k (omega arith) in
    fit_append (up_to (face_terms m c) k) (face_terms m c k) (fit_terms m c k (λ f h. t f (omega arith)))
    (fit_append (only (eqb (m.owner k) c) x) (only (eqb (m.neighbour k) (suc c)) (neg x)) (fit_only (eqb (m.owner k) c) x s) (fit_only (eqb (m.neighbour k) (suc c)) (neg x) (neg-fits binary64 x s)))

-- ---- where a cell's terms are finite, so are the fluxes of the faces that it owns
finite_left : (xs ys : List Float) → AllFinite (xs ++ ys) → AllFinite xs
finite_left [] ys p = tt
finite_left (x ∷ xs) ys p = (p.0, finite_left xs ys p.1)

finite_right : (xs ys : List Float) → AllFinite (xs ++ ys) → AllFinite ys
finite_right [] ys p = p
finite_right (x ∷ xs) ys p = finite_right xs ys p.1

only_finite : (b : Bool) (x : Float) → b ≡ true → AllFinite (only b x) → T (finite x)
only_finite b x e p = (subst (λ (t : Bool). AllFinite (only t x)) e p).0

pub own_finite : (m : Faces) (c k : ℕ) → AllFinite (up_to (face_terms m c) k) → (f : ℕ) → f < k → m.owner f ≡ c → T (finite (m.flux f))
unfolding up_to face_terms
own_finite m c zero p f h e = absurd (omega arith)
own_finite m c (suc k) p f h e =
    let own = only (eqb (m.owner k) c) (m.flux k) in
    let next = only (eqb (m.neighbour k) (suc c)) (neg (m.flux k)) in
    ⊎_elim
    (λ (q : f ≡ k).
    subst (λ (j : ℕ). T (finite (m.flux j))) (sym q)
    (only_finite (eqb (m.owner k) c) (m.flux k) (eq-eqb (m.owner k) c (ap m.owner (sym q) ∙ e)) (finite_left own next (finite_right (up_to (face_terms m c) k) (own ++ next) p))))
    (λ (l : f < k). own_finite m c k (finite_left (up_to (face_terms m c) k) (own ++ next) p) f l e)
    (eq-or-lt_of_le (le_of_suc-le-suc h))
