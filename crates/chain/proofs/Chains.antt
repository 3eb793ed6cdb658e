-- How a walk of a chain goes on by one record: in the search for a broken one, and along a sound one. Assumes nothing.
use Rattle.std.specs.Prelude.{None, Some}
use mathlib.Core.Path.{◌≡◌, refl, sym, ◌∙◌, ap, subst}
use mathlib.Core.Logic.{◌⊎◌, inl, inr, ⊎_elim}
use mathlib.Core.List.{List, [], ◌∷◌}
use mathlib.Core.Bool.{Bool, true, false, not, ◌&&◌, ◌||◌, cond, false≢true}
use Prim.Native.Nat.{ℕ, zero, suc, ◌+◌, ◌*◌, ◌-◌, ◌/◌, ◌<◌, ◌≤◌}
use native.Mathlib.Omega.{arith}
use native.Mathlib.Nat.{le_refl}
use native.Mathlib.Numerals.{sub-one, add-one}
use lib.Dec.{leb, ltb, eqb, eqb-suc-zero}
use lib.ListN.{length}
use borrow.Author.Tests.{ltb-true, leb-true, eqb-true, eq-eqb, ne_eqb, le-leb}
use Rattle.chain.specs.Pairs.{first_at, second_at}
use Rattle.chain.specs.Chains.{item_of, next_of, step_of, walk, trail, ends, Chain, leads_on, head_at, cell_count, broken_cell, lowest_broken}
use Rattle.chain.specs.declared.Form.{Form}
use Rattle.chain.proofs.Search.{none_found}
use Rattle.chain.proofs.Truth.{and_true}

-- ---- the search
module _ (l : List ℕ) (records limit : ℕ) where
  pub ended : (left r : ℕ) → r ≡ 0 → ends l records limit left r ≡ true
  unfolding ends
  ended zero r e = rw (eq-eqb _ _ e)
  ended (suc left) r e = rw (eq-eqb _ _ e)

  pub no_end : (left r : ℕ) → left ≡ 0 → (r ≡ 0 → ⊥) → ends l records limit left r ≡ false
  unfolding ends
  no_end left r e z = rw (e, ne_eqb _ _ z)

  pub opened : (left q : ℕ) → leb (suc q) records ≡ true → ltb (item_of l (suc q)) limit ≡ true → ends l records limit left (next_of l (suc q)) ≡ true → ends l records limit (suc left) (suc q) ≡ true
  unfolding ends
  opened left q a b c = rw (eqb-suc-zero, a, b, c)

  -- a step that breaks ends no chain, and one that goes on leaves the end to the next record
  broken_step : (a b h : Bool) (n : ℕ) → cond (a && b) (Some n) None ≡ None → (a && (b && h)) ≡ false
  broken_step true true h n e = cc
  broken_step true false h n e = refl
  broken_step false b h n e = refl

  next_step : (a b h : Bool) (n q : ℕ) → cond (a && b) (Some n) None ≡ Some q → ((a && (b && h)) ≡ h) × (n ≡ q)
  next_step true true h n q e = (refl, cc)
  next_step true false h n q e = (cc, cc)
  next_step false b h n q e = (cc, cc)

  pub breaks : (left r : ℕ) → (r ≡ 0 → ⊥) → step_of l records limit r ≡ None → ends l records limit left r ≡ false
  unfolding ends step_of
  breaks zero r z e = rw (ne_eqb _ _ z)
  breaks (suc left) r z e = rw (ne_eqb _ _ z) (broken_step (leb r records) (ltb (item_of l r) limit) (ends l records limit left (next_of l r)) (next_of l r) e)

  pub goes_on : (left r q : ℕ) → (left ≡ 0 → ⊥) → (r ≡ 0 → ⊥) → step_of l records limit r ≡ Some q → ends l records limit (left - 1) q ≡ ends l records limit left r
  unfolding ends step_of
  goes_on zero r q n z e = absurd (n refl)
  goes_on (suc left) r q n z e =
      let w = next_step (leb r records) (ltb (item_of l r) limit) (ends l records limit left (next_of l r)) (next_of l r) q e in
      rw (ne_eqb _ _ z, sub-one, ← w.1) (sym w.0)

-- ---- records in order
module _ (l : List ℕ) (limit : ℕ) (lead : (i : ℕ) → i < length l / 2 → leads_on limit l i ≡ true) where
  -- a record that leads on: its item is below the limit, and what follows is no record or a later one
  abbrev Later : ℕ → Type 0
  Later q = (next_of l (suc q) ≡ 0) ⊎ ((suc q < next_of l (suc q)) × (next_of l (suc q) ≤ length l / 2))

  leads : (q : ℕ) → q < length l / 2 → (ltb (item_of l (suc q)) limit ≡ true) × Later q
  unfolding leads_on
  leads q h = rw sub-one (split (first_at l q) (second_at l q) (lead q h))
    where
      later : (n : ℕ) (a b c : Bool) → a ≡ eqb n 0 → b ≡ ltb (q + 1) n → c ≡ leb n (length l / 2) → (a || (b && c)) ≡ true → (n ≡ 0) ⊎ ((suc q < n) × (n ≤ length l / 2))
      later n true b c d e f h = inl (eqb-true n 0 (sym d))
      later n false true true d e f h = inr (subst (λ (k : ℕ). k < n) (add-one q) (ltb-true (q + 1) n (sym e)), leb-true n (length l / 2) (sym f))
      later n false true false d e f h = absurd (false≢true h)
      later n false false c d e f h = absurd (false≢true h)

      split : (i n : ℕ) → (ltb i limit && (eqb n 0 || (ltb (q + 1) n && leb n (length l / 2)))) ≡ true → (ltb i limit ≡ true) × ((n ≡ 0) ⊎ ((suc q < n) × (n ≤ length l / 2)))
      split i n e = let w = and_true (ltb i limit) (eqb n 0 || (ltb (q + 1) n && leb n (length l / 2))) e in (w.0, later n (eqb n 0) (ltb (q + 1) n) (leb n (length l / 2)) refl refl refl w.1)

  -- a chain from a record on ends within as many records as there are from it on
  abbrev InOrder : ℕ → Type 0
  InOrder left = (r : ℕ) → r ≤ length l / 2 → (r ≡ 0) ⊎ (length l / 2 < left + r) → ends l (length l / 2) limit left r ≡ true

  one_on : (left : ℕ) → InOrder left → InOrder (suc left)
  one_on left more zero h d = ended l (length l / 2) limit (suc left) zero refl
  one_on left more (suc q) h d =
      let w = leads q (omega (arith, h)) in
      let rest : ends l (length l / 2) limit left (next_of l (suc q)) ≡ true =
      ⊎_elim
      (λ e. ended l (length l / 2) limit left (next_of l (suc q)) e)
      (λ v. more (next_of l (suc q)) v.1 (inr (room d v.0)))
      w.1 in
      opened l (length l / 2) limit left q (le-leb _ _ h) w.0 rest
    where
      room : {n next : ℕ} → (suc q ≡ 0) ⊎ (n < suc left + suc q) → suc q < next → n < left + next
      room (inl e) k = absurd (omega (arith, e))
      room (inr m) k = omega (arith, m, k)

  ends_in_order : (left : ℕ) → InOrder left
  ends_in_order zero r h d = ⊎_elim (λ e. ended l (length l / 2) limit zero r e) (λ k. absurd (omega (arith, h, k))) d
  ends_in_order (suc left) r h d = one_on left (ends_in_order left) r h d

  pub none_broken : (form : Form) (heads : List ℕ) → ((cell : ℕ) → cell < cell_count form heads → head_at form heads cell ≤ length l / 2) → lowest_broken limit l form heads ≡ None
  unfolding broken_cell
  none_broken form heads within =
      none_found (broken_cell limit l form heads) (cell_count form heads) (λ cell h. ap not (ends_in_order (length l / 2) (head_at form heads cell) (within cell h) (first (head_at form heads cell))))
    where
      first : (r : ℕ) → (r ≡ 0) ⊎ (length l / 2 < length l / 2 + r)
      first zero = inl refl
      first (suc r) = inr (omega arith)

-- ---- a sound chain
pub walk_over : (l : List ℕ) (n r : ℕ) → r ≡ 0 → walk l n r ≡ []
unfolding walk
walk_over l zero r e = refl
walk_over l (suc n) r e = rw (eq-eqb _ _ e)

module _ (l : List ℕ) (records limit : ℕ) where
  -- a walk with records to spare is the walk that just suffices
  pub spare : (k n r : ℕ) → k ≤ n → ends l records limit k r ≡ true → walk l n r ≡ walk l k r
  unfolding walk ends
  spare zero n r h e = walk_over l n r (eqb-true r 0 e)
  spare (suc k) zero r h e = absurd (omega arith)
  spare (suc k) (suc n) zero h e = refl
  spare (suc k) (suc n) (suc r) h e =
      let p = and_true (leb (suc r) records) _ (rw (eqb-suc-zero r) at e) in
      let q = and_true (ltb (item_of l (suc r)) limit) _ p.1 in
      rw (eqb-suc-zero r) (ap (λ (t : List ℕ). item_of l (suc r) ∷ t) (spare k n (next_of l (suc r)) (omega arith) q.1))

  -- a chain that ends within k records ends within more
  pub ends_more : (k n r : ℕ) → k ≤ n → ends l records limit k r ≡ true → ends l records limit n r ≡ true
  unfolding ends
  ends_more zero n r h e = ended l records limit n r (eqb-true r 0 e)
  ends_more (suc k) zero r h e = absurd (omega arith)
  ends_more (suc k) (suc n) zero h e = refl
  ends_more (suc k) (suc n) (suc r) h e =
      let p = and_true (leb (suc r) records) _ (rw (eqb-suc-zero r) at e) in
      let q = and_true (ltb (item_of l (suc r)) limit) _ p.1 in
      opened l records limit n r p.0 q.0 (ends_more k n (next_of l (suc r)) (omega arith) q.1)

-- where it ends within k of the records that there are, it is sound
pub chained : (l : List ℕ) (records limit k r : ℕ) → k ≤ records → ends l records limit k r ≡ true → Chain l records limit r
chained l records limit k r h e = record { sound = ends_more l records limit k records r h e }

-- a record of a sound chain is there, and what follows it is a sound chain
pub record Onward (l : List ℕ) (records limit r : ℕ) : Type 0 where
  pub present : r ≤ records
  pub below : item_of l r < limit
  pub cons : walk l records r ≡ item_of l r ∷ walk l records (next_of l r)
  pub rest : Chain l records limit (next_of l r)

onward-at : (l : List ℕ) (records limit : ℕ) (k r : ℕ) → k ≤ records → ends l records limit k r ≡ true → (r ≡ 0 → ⊥)
    → Onward l records limit r
unfolding walk ends
onward-at l records limit zero r h e z = absurd (z (eqb-true r 0 e))
onward-at l records limit (suc k) zero h e z = absurd (z refl)
onward-at l records limit (suc k) (suc r) h e z =
    let p = and_true (leb (suc r) records) _ (rw (eqb-suc-zero r) at e) in
    let q = and_true (ltb (item_of l (suc r)) limit) _ p.1 in
    let k-within : k ≤ records = omega arith in
    record {
      present = leb-true _ _ p.0;
      below = ltb-true _ _ q.0;
      cons =
          spare l records limit (suc k) records (suc r) h e
          ∙ rw (eqb-suc-zero r)
          (ap (λ (t : List ℕ). item_of l (suc r) ∷ t) (sym (spare l records limit k records (next_of l (suc r)) k-within q.1)));
      rest = chained l records limit k (next_of l (suc r)) k-within q.1;
    }

pub onward : (l : List ℕ) (records limit r : ℕ) → Chain l records limit r → (r ≡ 0 → ⊥) → Onward l records limit r
onward l records limit r c z = onward-at l records limit records r (le_refl _) c.sound z

-- the record's two numbers are there
pub room : {l : List ℕ} {records limit r : ℕ} → length l ≡ 2 * records → (r ≡ 0 → ⊥) → Onward l records limit r → 2 * (r - 1) + 1 < length l
room {l} {records} {limit} {r} e z o = omega (arith, o.present)

-- ---- the same of the records themselves
pub trail_over : (l : List ℕ) (n r : ℕ) → r ≡ 0 → trail l n r ≡ []
unfolding trail
trail_over l zero r e = refl
trail_over l (suc n) r e = rw (eq-eqb _ _ e)

module _ (l : List ℕ) (records limit : ℕ) where
  trail_spare : (k n r : ℕ) → k ≤ n → ends l records limit k r ≡ true → trail l n r ≡ trail l k r
  unfolding trail ends
  trail_spare zero n r h e = trail_over l n r (eqb-true r 0 e)
  trail_spare (suc k) zero r h e = absurd (omega arith)
  trail_spare (suc k) (suc n) zero h e = refl
  trail_spare (suc k) (suc n) (suc r) h e =
      let p = and_true (leb (suc r) records) _ (rw (eqb-suc-zero r) at e) in
      let q = and_true (ltb (item_of l (suc r)) limit) _ p.1 in
      rw (eqb-suc-zero r) (ap (λ (t : List ℕ). suc r ∷ t) (trail_spare k n (next_of l (suc r)) (omega arith) q.1))

  trail-at : (k r : ℕ) → k ≤ records → ends l records limit k r ≡ true → (r ≡ 0 → ⊥) → trail l records r ≡ r ∷ trail l records (next_of l r)
  unfolding trail ends
  trail-at zero r h e z = absurd (z (eqb-true r 0 e))
  trail-at (suc k) zero h e z = absurd (z refl)
  trail-at (suc k) (suc r) h e z =
      let p = and_true (leb (suc r) records) _ (rw (eqb-suc-zero r) at e) in
      let q = and_true (ltb (item_of l (suc r)) limit) _ p.1 in
      let k-within : k ≤ records = omega arith in
      trail_spare (suc k) records (suc r) h e
      ∙ rw (eqb-suc-zero r) (ap (λ (t : List ℕ). suc r ∷ t) (sym (trail_spare k records (next_of l (suc r)) k-within q.1)))

  pub trail_on : (r : ℕ) → Chain l records limit r → (r ≡ 0 → ⊥) → trail l records r ≡ r ∷ trail l records (next_of l r)
  trail_on r c z = trail-at records r (le_refl _) c.sound z
