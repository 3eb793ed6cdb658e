-- How many records a chain has: counted along it, and read off records that lead to the ones behind them. Assumes nothing.
use Rattle.std.specs.Prelude.{None, Some}
use mathlib.Core.Path.{◌≡◌, refl, sym, ap, ◌∙◌, subst}
use mathlib.Core.List.{List, [], ◌∷◌}
use mathlib.Core.Bool.{Bool, true, false, not, ◌&&◌, cond}
use Prim.Native.Nat.{ℕ, zero, suc, ◌+◌, ◌-◌, ◌/◌, ◌<◌, ◌≤◌}
use native.Mathlib.Omega.{arith}
use native.Mathlib.Nat.{le_trans}
use native.Mathlib.Numerals.{sub-one}
use borrow.Author.Tests.{ltb-true, ltb-false, lt-ltb, le-ltb, le-leb, eqb-true, eqb-false, ne_eqb}
use lib.Dec.{eqb, ltb}
use lib.ListN.{length}
use Rattle.chain.specs.Pairs.{first_at, second_at}
use Rattle.chain.specs.Chains.{item_of, next_of, ends, walk, head_at, cell_count, broken_cell, lowest_broken}
use Rattle.chain.specs.declared.Form.TheVariants.{First}
use Rattle.chain.proofs.Search.{none_found, below_more}
use Rattle.chain.proofs.Chains.{ended, opened, spare, walk_over, ends_more}
use Rattle.degree.specs.Degree.{most_faces, long, lowest_long}
use Rattle.degree.specs.Counts.{begin_after, Short}

-- ---- along a chain

-- a walk has no more items than it may have
pub walk_within : (l : List ℕ) (n r : ℕ) → length (walk l n r) ≤ n
unfolding walk
walk_within l zero r = omega arith
walk_within l (suc n) r = go (eqb r 0) (walk_within l n (next_of l r))
  where
    go : (b : Bool) → length (walk l n (next_of l r)) ≤ n → length (cond b [] (item_of l r ∷ walk l n (next_of l r))) ≤ suc n
    go true h = omega arith
    go false h = omega (arith, h)

-- one record of n and one of its items, where the chain goes on
pub walk_on : (l : List ℕ) (n r : ℕ) → (r ≡ 0 → ⊥) → length (walk l (suc n) r) ≡ suc (length (walk l n (next_of l r)))
unfolding walk
walk_on l n r z = rw (ne_eqb r 0 z) refl

-- of the chain from h on n records are passed, few so far, and r is the next
pub record Passed (l : List ℕ) (h n r : ℕ) : Type 0 where
  pub few : n ≤ most_faces
  pub total : length (walk l (length l / 2) h) ≡ n + length (walk l (length l / 2 - n) r)

module _ (l : List ℕ) (h : ℕ) where
  -- where there are no more records than a cell may have
  pub few_records : length l / 2 ≤ most_faces → false ≡ ltb most_faces (length (walk l (length l / 2) h))
  few_records k = sym (le-ltb _ _ (le_trans (walk_within l (length l / 2) h) k))

  pub unpassed : Passed l h 0 h
  unpassed = record { few = omega arith; total = from (length l / 2) }
    where
      from : (n : ℕ) → length (walk l n h) ≡ 0 + length (walk l (n - 0) h)
      from n = rw (less n) (omega arith)
        where
          less : (n : ℕ) → n - 0 ≡ n
          less n = omega arith

  one_on : (n r : ℕ) → n < length l / 2 → (r ≡ 0 → ⊥)
      → length (walk l (length l / 2 - n) r) ≡ suc (length (walk l (length l / 2 - (n + 1)) (next_of l r)))
  one_on n r k z =
      let e : length l / 2 - n ≡ suc (length l / 2 - (n + 1)) = omega (arith, k) in
      rw e (walk_on l (length l / 2 - (n + 1)) r z)

  pub pass_one : (n r : ℕ) → Passed l h n r → most_faces < length l / 2 → (r ≡ 0 → ⊥) → n < most_faces → Passed l h (n + 1) (next_of l r)
  pass_one n r p k z m =
      let e = one_on n r (omega (arith, m, k)) z in
      record { few = omega (arith, m); total = p.total ∙ omega (arith, e) }

  one_too_many : (n r : ℕ) → Passed l h n r → most_faces < length l / 2 → (r ≡ 0 → ⊥) → n ≡ most_faces
      → ltb most_faces (length (walk l (length l / 2) h)) ≡ true
  one_too_many n r p k z m =
      let e = one_on n r (omega (arith, p.few, k)) z in
      lt-ltb most_faces (length (walk l (length l / 2) h)) (omega (arith, p.total, e, m))

  pub no_more : (n r : ℕ) → Passed l h n r → r ≡ 0 → false ≡ ltb most_faces (length (walk l (length l / 2) h))
  no_more n r p z =
      let e : length (walk l (length l / 2 - n) r) ≡ 0 = ap length (walk_over l (length l / 2 - n) r z) in
      sym (le-ltb most_faces (length (walk l (length l / 2) h)) (omega (arith, p.total, e, p.few)))

  -- whether there is a record behind the most that there may be
  pub at_most : (n r : ℕ) → Passed l h n r → most_faces ≤ n → most_faces < length l / 2
      → not (eqb r 0) ≡ ltb most_faces (length (walk l (length l / 2) h))
  at_most n r p m k = go (eqb r 0) refl
    where
      go : (b : Bool) → eqb r 0 ≡ b → not b ≡ ltb most_faces (length (walk l (length l / 2) h))
      go true e = no_more n r p (eqb-true r 0 e)
      go false e = sym (one_too_many n r p k (eqb-false r 0 e) (omega (arith, p.few, m)))

pub ruleset passing = (few_records, unpassed, pass_one, no_more, at_most)

-- a short chain is not broken, and has at most as many records as a cell may have faces
module _ (l : List ℕ) (limit : ℕ) (all : (i : ℕ) → i < length l / 2 → Short l limit (suc i)) where
  short_at : (r : ℕ) → r ≤ length l / 2 → Short l limit r
  short_at zero h = record { left = 0; few = omega arith; within = omega arith; sound = ended l (length l / 2) limit 0 0 refl }
  short_at (suc i) h = all i h

  module _ (heads : List ℕ) (within : (cell : ℕ) → cell < cell_count First heads → head_at First heads cell ≤ length l / 2) where
    pub none_broken : lowest_broken limit l First heads ≡ None
    unfolding broken_cell
    none_broken =
        none_found (broken_cell limit l First heads) (cell_count First heads)
        (λ cell h.
        let s = short_at (head_at First heads cell) (within cell h) in
        ap not (ends_more l (length l / 2) limit s.left (length l / 2) (head_at First heads cell) s.within s.sound))

    pub none_long : lowest_long heads l ≡ None
    unfolding long
    none_long =
        none_found (long l heads) (cell_count First heads)
        (λ cell h.
        let r = head_at First heads cell in
        let s = short_at r (within cell h) in
        let same = spare l (length l / 2) limit s.left (length l / 2) r s.within s.sound in
        let few : length (walk l (length l / 2) r) ≤ most_faces =
        subst (λ (t : List ℕ). length t ≤ most_faces) (sym same) (le_trans (walk_within l s.left r) s.few) in
        le-ltb most_faces (length (walk l (length l / 2) r)) few)

-- ---- records that lead to the ones behind them

-- the records below i are read, and that of i stands in a chain that begins at `begin`: those before it are short, and its own leads on to i
pub record Runs (limit : ℕ) (l : List ℕ) (begin i : ℕ) : Type 0 where
  pub within : i ≤ length l / 2
  pub begun : begin ≤ i
  pub done : (j : ℕ) → j < begin → Short l limit (suc j)
  pub onward : (j : ℕ) → begin ≤ j → j < i → (first_at l j < limit) × (second_at l j ≡ j + 2)

module _ (limit : ℕ) (l : List ℕ) where
  pub leads : (begin i : ℕ) → Runs limit l begin i → i < length l / 2 → first_at l i < limit → second_at l i ≡ i + 2 → Runs limit l begin (i + 1)
  leads begin i r h a e = record {
    within = omega (arith, h);
    begun = omega (arith, r.begun);
    done = r.done;
    onward = λ j b c.
        below_more (λ k. begin ≤ k → (first_at l k < limit) × (second_at l k ≡ k + 2)) i (λ k d q. r.onward k q d) (λ _. (a, e)) j c b;
  }

  -- the records from j to i, the first of which is d before the last, are a chain of d + 1
  run : (i : ℕ) → i < length l / 2 → first_at l i < limit → second_at l i ≡ 0 → (d j : ℕ) → j + d ≡ i
      → ((k : ℕ) → j ≤ k → k < i → (first_at l k < limit) × (second_at l k ≡ k + 2))
      → ends l (length l / 2) limit (suc d) (suc j) ≡ true
  run i h a e zero j q on =
      let same : j ≡ i = omega arith in
      opened l (length l / 2) limit 0 j (le-leb (suc j) (length l / 2) (omega (arith, h))) (rw (sub-one, same) (lt-ltb _ _ a))
      (rw (sub-one, same) (ended l (length l / 2) limit 0 (second_at l i) e))
  run i h a e (suc d) j q on =
      let w = on j (omega arith) (omega arith) in
      opened l (length l / 2) limit (suc d) j (le-leb (suc j) (length l / 2) (omega (arith, h))) (rw sub-one (lt-ltb _ _ w.0))
      (rw (sub-one, w.1, two j) (run i h a e d (suc j) (omega arith) (λ k b c. on k (omega (arith, b)) c)))
    where
      two : (j : ℕ) → j + 2 ≡ suc (suc j)
      two j = omega arith

  pub ends_run : (begin i : ℕ) → Runs limit l begin i → i < length l / 2 → first_at l i < limit → second_at l i ≡ 0
      → i - begin < most_faces → Runs limit l (i + 1) (i + 1)
  ends_run begin i r h a e few = record {
    within = omega (arith, h);
    begun = omega arith;
    done = below_more (λ j. Short l limit (suc j)) i below (short i r.begun (omega arith));
    onward = λ j b c. absurd (omega (arith, b, c));
  }
    where
      short : (j : ℕ) → begin ≤ j → j ≤ i → Short l limit (suc j)
      short j b c = record {
        left = suc (i - j);
        few = omega (arith, few, b, c);
        within = omega (arith, h);
        sound = run i h a e (i - j) j (omega (arith, c)) (λ k p q. r.onward k (omega (arith, b, p)) q);
      }

      below : (j : ℕ) → j < i → Short l limit (suc j)
      below j b = go (ltb j begin) refl
        where
          go : (t : Bool) → ltb j begin ≡ t → Short l limit (suc j)
          go true q = r.done j (ltb-true j begin q)
          go false q = short j (ltb-false j begin q) (omega (arith, b))

  -- one record on
  pub more : (begin i b : ℕ) → Runs limit l begin i → i < length l / 2 → begin_after limit l i begin ≡ Some b → Runs limit l b (i + 1)
  unfolding begin_after
  more begin i b r h e = go (ltb (first_at l i) limit) (eqb (second_at l i) (i + 2)) (eqb (second_at l i) 0) (ltb (i - begin) most_faces) refl refl refl refl e
    where
      go : (below leads-on ends-here few : Bool) → ltb (first_at l i) limit ≡ below → eqb (second_at l i) (i + 2) ≡ leads-on
          → eqb (second_at l i) 0 ≡ ends-here → ltb (i - begin) most_faces ≡ few
          → cond below (cond leads-on (Some begin) (cond (ends-here && few) (Some (i + 1)) None)) None ≡ Some b → Runs limit l b (i + 1)
      go false x y z p q s t k = let w : ◌≡◌ {A = ℕ} 0 1 = cc in absurd (omega arith)
      go true true y z p q s t k =
          let same : begin ≡ b = cc in
          subst (λ (m : ℕ). Runs limit l m (i + 1)) same (leads begin i r h (ltb-true _ _ p) (eqb-true _ _ q))
      go true false true true p q s t k =
          let same : i + 1 ≡ b = cc in
          subst (λ (m : ℕ). Runs limit l m (i + 1)) same (ends_run begin i r h (ltb-true _ _ p) (eqb-true _ _ s) (ltb-true _ _ t))
      go true false true false p q s t k = let w : ◌≡◌ {A = ℕ} 0 1 = cc in absurd (omega arith)
      go true false false z p q s t k = let w : ◌≡◌ {A = ℕ} 0 1 = cc in absurd (omega arith)
