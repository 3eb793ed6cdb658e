-- The search over the chains finds the next cell of the second ring.
use mathlib.Core.Path.{◌≡◌, refl, sym, ◌∙◌}
use mathlib.Core.List.{List, [], ◌∷◌}
use mathlib.Core.Bool.{Bool, true, false, ◌&&◌, ◌||◌}
use mathlib.Core.Logic.{◌⊎◌, inl, inr, ⊎_elim}
use Prim.Native.Nat.{ℕ, zero, suc, ◌+◌, ◌-◌, ◌<◌, ◌≤◌}
use native.Mathlib.Omega.{arith}
use native.Mathlib.Nat.{le_refl}
use lib.Dec.{leb, ltb, eqb}
use borrow.Author.Tests.{ltb-true, ltb-false, leb-true, eqb-true, eqb-false, eq-eqb, le-leb}
use Rattle.stencil.specs.Ring.{elem, Ways, neighbours_of, fresh, beside, in_ring, up_from, ring, ring_from, lower_fresh, lowest_in, lowest_all}
use Rattle.std.specs.List.{list_any}
use Rattle.chain.proofs.Truth.{and_true}

pub cases : (b : Bool) → (b ≡ true) ⊎ (b ≡ false)
cases true = inl refl
cases false = inr refl

-- r is the lowest of `best` and of the cells in `among` that are from `from` on and for which p holds
record Low (p : ℕ → Bool) (from best : ℕ) (among : ℕ → Bool) (r : ℕ) : Type 0 where
  under : r ≤ best
  origin : (r ≡ best) ⊎ ((from ≤ r) × (p r ≡ true) × (among r ≡ true))
  least : (d : ℕ) → among d ≡ true → from ≤ d → p d ≡ true → r ≤ d

either : (a b : Bool) → (a || b) ≡ true → (a ≡ true) ⊎ (b ≡ true)
either true b h = inl refl
either false b h = inr h

left_in : (a b : Bool) → a ≡ true → (a || b) ≡ true
left_in a b h = rw h

right_in : (a b : Bool) → b ≡ true → (a || b) ≡ true
right_in true b h = refl
right_in false b h = h

module _ (p : ℕ → Bool) (from : ℕ) where
  join : (best mid r : ℕ) (A B : ℕ → Bool) → Low p from best A mid → Low p from mid B r → Low p from best (λ d. (A d || B d)) r
  join best mid r A B a b = record {
    under = omega (arith, a.under, b.under);
    origin =
        ⊎_elim
        (λ e.
        ⊎_elim (λ f. inl (e ∙ f))
        (λ f. inr (rw e f.0, rw e f.1, left_in (A r) (B r) (rw e f.2)))
        a.origin)
        (λ f. inr (f.0, f.1, right_in (A r) _ f.2))
        b.origin;
    least = λ d h l q.
        ⊎_elim
        (λ e. let m : mid ≤ d = a.least d e l q in omega (arith, b.under))
        (λ e. b.least d e l q)
        (either (A d) (B d) h);
  }

module _ (w : Ways) (c from : ℕ) where
  one : (best d : ℕ) → Low (fresh w c) from best (eqb d) (lower_fresh w c from best d)
  unfolding lower_fresh
  one best d =
      ⊎_elim
      (λ t.
      let a = and_true (leb from d) _ t in
      let b = and_true (ltb d best) _ a.1 in
      rw t
      record {
        under = omega (arith, ltb-true d best b.0);
        origin = inr (leb-true _ _ a.0, b.1, eq-eqb d d refl);
        least = λ k e l q. omega (arith, eqb-true d k e);
      })
      (λ t.
      rw t
      record {
        under = le_refl best;
        origin = inl refl;
        least = λ k e l q.
            let same : d ≡ k = eqb-true d k e in
            let is-fresh : fresh w c d ≡ true = rw same q in
            ⊎_elim
            (λ u. let z : true ≡ false = sym (rw (le-leb from d (omega arith), u, is-fresh)) ∙ t in absurd (cc))
            (λ u. omega (arith, ltb-false d best u))
            (cases (ltb d best));
      })
      (cases (leb from d && (ltb d best && fresh w c d)))

  in_one : (best : ℕ) (ds : List ℕ) → Low (fresh w c) from best (λ d. elem d ds) (lowest_in w c from best ds)
  in_one best [] = record { under = le_refl best; origin = inl refl; least = λ d e l q. absurd (cc) }
  in_one best (d ∷ ds) =
      join (fresh w c) from best (lower_fresh w c from best d) _ (eqb d) (λ k. elem k ds) (one best d) (in_one (lower_fresh w c from best d) ds)

  in_all : (best : ℕ) (ns : List ℕ) → Low (fresh w c) from best (λ d. list_any (beside w d) ns) (lowest_all w c from best ns)
  in_all best [] = record { under = le_refl best; origin = inl refl; least = λ d e l q. absurd (cc) }
  in_all best (n ∷ ns) =
      join (fresh w c) from best (lowest_in w c from best (neighbours_of w n)) _ (λ d. beside w d n) (λ d. list_any (beside w d) ns)
      (in_one best (neighbours_of w n)) (in_all (lowest_in w c from best (neighbours_of w n)) ns)

-- where p fails throughout, the list is empty; where it first holds at e, it starts there
none : (p : ℕ → Bool) (n d : ℕ) → ((k : ℕ) → d ≤ k → k < d + n → p k ≡ false) → up_from p n d ≡ []
unfolding up_from
none p zero d h = refl
none p (suc n) d h = rw (h d (omega arith) (omega arith)) (none p n (d + 1) (λ k a b. h k (omega arith) (omega arith)))

next : (p : ℕ → Bool) (n m d e : ℕ) → d ≤ e → n + d ≡ suc m + e → p e ≡ true → ((k : ℕ) → d ≤ k → k < e → p k ≡ false)
    → up_from p n d ≡ e ∷ up_from p m (e + 1)
unfolding up_from
next p zero m d e l s t h = absurd (omega arith)
next p (suc n) m d e l s t h =
    ⊎_elim
    (λ u.
    let same : d ≡ e = eqb-true d e u in
    let count : n ≡ m = omega arith in
    rw (same, t, count))
    (λ u.
    let apart : d ≡ e → ⊥ = eqb-false d e u in
    rw (h d (le_refl d) (omega arith)) (next p n m (d + 1) e (omega arith) (omega arith) t (λ k a b. h k (omega arith) b)))
    (cases (eqb d e))

-- what the search finds is the head of what is left of the ring, and where it finds nothing, nothing is left
module _ (w : Ways) (c from : ℕ) where
  abbrev pub found : ℕ
  found = lowest_all w c from w.counts.cells (neighbours_of w c)

  earlier : (k : ℕ) → from ≤ k → k < found → in_ring w c k ≡ false
  unfolding in_ring
  earlier k a b =
      ⊎_elim
      (λ t.
      let q = and_true (fresh w c k) _ t in
      let l : found ≤ k = (in_all w c from w.counts.cells (neighbours_of w c)).least k q.1 a q.0 in
      absurd (omega arith))
      (λ t. t)
      (cases (in_ring w c k))

  pub found_onward : (r : ℕ) → r ≡ found → r < w.counts.cells → from ≤ r
  found_onward r q e = rw q (⊎_elim (λ o. absurd (omega arith)) (λ o. o.0) (in_all w c from w.counts.cells (neighbours_of w c)).origin)

  pub found_first : (r : ℕ) → r ≡ found → r < w.counts.cells → from ≤ w.counts.cells → ring_from w c from ≡ r ∷ ring_from w c (r + 1)
  unfolding in_ring
  found_first r q e h =
      rw q
      (⊎_elim
      (λ o. absurd (omega arith))
      (λ o. next (in_ring w c) (w.counts.cells - from) (w.counts.cells - (found + 1)) from found o.0 (omega (arith, o.0)) (rw (o.1, o.2)) earlier)
      (in_all w c from w.counts.cells (neighbours_of w c)).origin)

  pub found_none : (r : ℕ) → r ≡ found → w.counts.cells ≤ r → ring_from w c from ≡ []
  found_none r q e = none (in_ring w c) (w.counts.cells - from) from (λ k a b. earlier k a (omega arith))

-- the whole ring is its cells from 0 on
pub all_ring : (w : Ways) (c : ℕ) → ring w c ≡ ring_from w c 0
unfolding ring
all_ring w c = let all : w.counts.cells - 0 ≡ w.counts.cells = omega arith in rw all
