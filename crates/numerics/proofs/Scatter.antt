-- The sum over the faces, read at one cell, is the sum over that cell's terms. Assumes nothing.
use mathlib.Core.Path.{◌≡◌, refl, sym, ap, ◌∙◌, subst}
use mathlib.Core.List.{List, [], ◌∷◌, ◌++◌}
use mathlib.Core.Bool.{Bool, true, false, cond}
use Prim.Native.Nat.{ℕ, zero, suc, ◌-◌, ◌<◌}
use native.Mathlib.Omega.{arith}
use borrow.Author.Tests.{eqb-true, eqb-false}
use lib.Dec.{eqb, eqb-zero-suc, eqb-suc-zero, eqb-suc-suc}
use lib.ListN.{length, get_or, set, length-set, replicate, length-replicate, get_or-replicate}
use lib.Seq.{get_or-set_same, get_or-set_other}
use lib.Ieee.{Float, nan, binary64, sub, neg}
use Rattle.binary64.specs.Numbers.{zero64, ◌⊕◌}
use Rattle.binary64.specs.Units.{total}
use Rattle.numerics.specs.Outflow.{Faces, faces_of, add_at, take_at, scatter_face, scatter, outflows, only, up_to, face_terms, terms, SumsItsTerms}

pub total-append : (s : Float) (xs ys : List Float) → total binary64 s (xs ++ ys) ≡ total binary64 (total binary64 s xs) ys
unfolding total
total-append s [] ys = refl
total-append s (x ∷ xs) ys = total-append (s ⊕ x) xs ys

-- ---- one store
add_read : (l : List Float) (o : ℕ) (v : Float) (c : ℕ) → c < length l
    → get_or (add_at l o v) c nan ≡ total binary64 (get_or l c nan) (only (eqb o c) v)
unfolding total
add_read l o v c h = go (eqb o c) refl
  where
    go : (b : Bool) → eqb o c ≡ b → get_or (add_at l o v) c nan ≡ total binary64 (get_or l c nan) (only b v)
    go true e = ap (λ (i : ℕ). get_or (add_at l i v) c nan) (eqb-true o c e) ∙ get_or-set_same l c (get_or l c nan ⊕ v) nan h
    go false e = get_or-set_other l o c (get_or l o nan ⊕ v) nan (λ (q : c ≡ o). eqb-false o c e (sym q))

take_read : (l : List Float) (o : ℕ) (v : Float) (c : ℕ) → c < length l
    → get_or (take_at l o v) c nan ≡ total binary64 (get_or l c nan) (only (eqb o c) (neg v))
unfolding sub
take_read l o v c h = add_read l o (neg v) c h

-- the neighbour n is stored as cell + 1
next_read : (l : List Float) (n : ℕ) (v : Float) (c : ℕ) → c < length l
    → get_or (cond (eqb n 0) l (take_at l (n - 1) v)) c nan ≡ total binary64 (get_or l c nan) (only (eqb n (suc c)) (neg v))
unfolding total
next_read l zero v c h = ap (λ (b : Bool). total binary64 (get_or l c nan) (only b (neg v))) (sym (eqb-zero-suc c))
next_read l (suc n) v c h =
    ap (λ (b : Bool). get_or (cond b l (take_at l (suc n - 1) v)) c nan) (eqb-suc-zero n)
    ∙ ap (λ (i : ℕ). get_or (take_at l i v) c nan) (less n)
    ∙ take_read l n v c h
    ∙ ap (λ (b : Bool). total binary64 (get_or l c nan) (only b (neg v))) (sym (eqb-suc-suc n c))
  where
    less : (n : ℕ) → suc n - 1 ≡ n
    less n = omega arith

-- ---- one face
length_next : (b : Bool) (l : List Float) (i : ℕ) (x : Float) → length (cond b l (set l i x)) ≡ length l
length_next true l i x = refl
length_next false l i x = length-set l i x

module _ (m : Faces) where
  pub length-scatter : (l : List Float) (k : ℕ) → length (scatter m l k) ≡ length l
  unfolding scatter scatter_face
  length-scatter l zero = refl
  length-scatter l (suc k) = length_next _ _ _ _ ∙ length-set _ _ _ ∙ length-scatter l k

  face_read : (l : List Float) (f c : ℕ) → c < length l → get_or (scatter_face m f l) c nan ≡ total binary64 (get_or l c nan) (face_terms m c f)
  unfolding scatter_face face_terms
  face_read l f c h =
      let v = m.flux f in
      let a = add_at l (m.owner f) v in
      next_read a (m.neighbour f) v c (subst (λ (k : ℕ). c < k) (sym (length-set l (m.owner f) (get_or l (m.owner f) nan ⊕ v))) h)
      ∙ ap (λ (s : Float). total binary64 s (only (eqb (m.neighbour f) (suc c)) (neg v))) (add_read l (m.owner f) v c h)
      ∙ sym (total-append (get_or l c nan) (only (eqb (m.owner f) c) v) (only (eqb (m.neighbour f) (suc c)) (neg v)))

  -- all faces below k
  pub read : (l : List Float) (k c : ℕ) → c < length l → get_or (scatter m l k) c nan ≡ total binary64 (get_or l c nan) (terms m k c)
  unfolding scatter up_to total
  read l zero c h = refl
  read l (suc k) c h =
      face_read (scatter m l k) k c (subst (λ (j : ℕ). c < j) (sym (length-scatter l k)) h)
      ∙ ap (λ (s : Float). total binary64 s (face_terms m c k)) (read l k c h)
      ∙ sym (total-append (get_or l c nan) (up_to (face_terms m c) k) (face_terms m c k))

-- ---- the outflows
pub sums_its_terms : (cells : ℕ) (adjacency : List ℕ) (flux : List Float) → SumsItsTerms cells adjacency flux (outflows cells adjacency flux)
unfolding outflows
sums_its_terms cells adjacency flux c h =
    read (faces_of adjacency flux) (replicate cells zero64) (length flux) c (subst (λ (k : ℕ). c < k) (sym (length-replicate cells zero64)) h)
    ∙ ap (λ (s : Float). total binary64 s (terms (faces_of adjacency flux) (length flux) c)) (get_or-replicate cells c zero64 nan h)
