-- A cell has as many terms as faces name it, so at most 26; and what that makes of its bound. Assumes nothing.
use mathlib.Core.Path.{◌≡◌, refl, sym, ap, ◌∙◌, subst}
use mathlib.Core.List.{List, ◌++◌}
use mathlib.Core.Bool.{Bool, true, false, ◌||◌, cond}
use Prim.Native.Nat.{ℕ, zero, suc, ◌+◌, ◌*◌, ◌/◌, ◌<◌, ◌≤◌}
use native.Mathlib.Omega.{arith}
use native.Mathlib.Nat.{mul-le-mul_right, le_trans, mul-add}
use native.Mathlib.Numerals.{add-one}
use borrow.Author.Tests.{eqb-true}
use lib.Dec.{eqb}
use lib.ListN.{length, length-append}
use lib.Ieee.{Float, neg, binary64}
use Rattle.binary64.specs.Units.{total_count}
use Rattle.degree.specs.Degree.{most_faces, count_where, names, FewNamings}
use Rattle.mesh.specs.Facts.{CellsOf}
use Rattle.mesh.specs.Records.{owner_at, neighbour_at}
use Rattle.numerics.specs.Outflow.{Faces, faces_of, only, up_to, face_terms, terms, Flows}
use Rattle.balance.specs.Balance.{bound, allowance, Balanced}
use Rattle.balance.specs.Quotable.{largest_multiplier, magnitudes, Quotable}

-- the terms that a face gives a cell: one where it names the cell, else none
one_or_none : (a b : Bool) (x y : Float) (n : ℕ) → (a ≡ true → b ≡ true → ⊥) → n + length (only a x ++ only b y) ≡ cond (a || b) (suc n) n
one_or_none true true x y n h = absurd (h refl refl)
one_or_none true false x y n h = add-one n
one_or_none false true x y n h = add-one n
one_or_none false false x y n h = omega arith

pub term_count : (cells : ℕ) (adjacency : List ℕ) (flux : List Float) (n c : ℕ) → ((f : ℕ) → f < n → CellsOf cells adjacency f) → length (terms (faces_of adjacency flux) n c) ≡ count_where (names adjacency c) n
unfolding up_to face_terms count_where names
term_count cells adjacency flux zero c h = refl
term_count cells adjacency flux (suc n) c h =
    let m = faces_of adjacency flux in
    length-append (terms m n c) (face_terms m c n)
    ∙ ap (λ (k : ℕ). k + length (face_terms m c n)) (term_count cells adjacency flux n c (λ f l. h f (omega (arith, l))))
    ∙ one_or_none (eqb (owner_at adjacency n) c) (eqb (neighbour_at adjacency n) (suc c)) (m.flux n) (neg (m.flux n)) (count_where (names adjacency c) n)
    (λ p q. (h n (omega arith)).apart (eqb-true (neighbour_at adjacency n) (suc c) q ∙ sym (add-one c) ∙ ap (λ (k : ℕ). k + 1) (sym (eqb-true (owner_at adjacency n) c p))))

-- each cell has few terms
abbrev FewTerms : Faces → ℕ → ℕ → Type 0
FewTerms m n cells = (c : ℕ) → c < cells → length (terms m n c) ≤ most_faces

few_bound : (xs : List Float) → length xs ≤ most_faces → bound xs ≤ largest_multiplier * total_count binary64 xs
few_bound xs h = mul-le-mul_right (total_count binary64 xs) (omega (arith, h))

few_allowance : (m : Faces) (n c : ℕ) → FewTerms m n c → allowance m n c ≤ largest_multiplier * magnitudes m n c
unfolding allowance magnitudes
few_allowance m n zero h = omega arith
few_allowance m n (suc c) h =
    let a = few_allowance m n c (λ d l. h d (omega (arith, l))) in
    let b = few_bound (terms m n c) (h c (omega arith)) in
    subst (λ (k : ℕ). allowance m n c + bound (terms m n c) ≤ k) (sym (mul-add largest_multiplier (magnitudes m n c) (total_count binary64 (terms m n c)))) (omega (arith, a, b))

quotable : (m : Faces) (n : ℕ) (outflow : List Float) → FewTerms m n (length outflow) → Balanced m n outflow → Quotable m n outflow
quotable m n outflow h b = record {
  cells = λ c l. le_trans (b.cells c l) (few_bound (terms m n c) (h c l));
  whole = le_trans b.whole (few_allowance m n (length outflow) h);
}

-- of the outflows of a lent flux, where the checks have passed
pub quoted : (cells : ℕ) (adjacency : List ℕ) (flux outflow : List Float) (n : ℕ) → Flows cells adjacency flux → FewNamings cells adjacency → length flux ≡ n → length outflow ≡ cells
    → Balanced (faces_of adjacency flux) n outflow → Quotable (faces_of adjacency flux) n outflow
quoted cells adjacency flux outflow n flows few size o b = quotable (faces_of adjacency flux) n outflow terms_few b
  where
    terms_few : FewTerms (faces_of adjacency flux) n (length outflow)
    terms_few c l =
        let all : length adjacency / 2 ≡ n = omega (arith, flows.size, size) in
        let e = term_count cells adjacency flux n c (λ f h. flows.faces f (omega (arith, h, size))) in
        let k : count_where (names adjacency c) n ≤ most_faces = subst (λ (i : ℕ). count_where (names adjacency c) i ≤ most_faces) all (few c (omega (arith, l, o))) in
        omega (arith, e, k)
