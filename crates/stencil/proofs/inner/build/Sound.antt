-- The records that are handed out stand in a sound chain for each cell, with sources below the number of cells + 2.
use Rattle.mesh.specs.Answers.{accepted}
use Rattle.std.specs.Prelude.{Ok, Err}
use mathlib.Core.Path.{◌≡◌, refl, ◌∙◌, subst}
use mathlib.Core.List.{List}
use mathlib.Core.Bool.{true}
use mathlib.Core.Logic.{⊎_elim}
use Prim.Native.Nat.{ℕ, zero, suc, ◌+◌, ◌*◌, ◌-◌, ◌<◌, ◌≤◌, zero-le}
use native.Mathlib.Omega.{arith}
use native.Mathlib.Nat.{ne_of_lt, le_refl}
use native.Mathlib.Numerals.{add-one}
use lib.Dec.{ltb, leb, eqb-suc-zero}
use lib.ListN.{length, get_or, set, length-set, length-replicate}
use lib.Seq.{get_or-set_same, get_or-set_other}
use borrow.Author.Count.{below_more}
use borrow.Author.Tests.{ltb-true, leb-true, le-leb, lt-ltb, ne_eqb}
use Rattle.chain.specs.Pairs.{first_at, second_at}
use Rattle.chain.specs.Chains.{item_of, next_of, ends, Chain}
use Rattle.chain.proofs.Chains.{chained}
use Rattle.chain.proofs.Truth.{and_true}
use Rattle.numerics.specs.Slices.{from_cell}
use Rattle.stencil.proofs.inner.ring.Laws.{cases}
use Rattle.matrix.specs.Normal.{zero9}
use Rattle.stencil.specs.Lent.{Lent, Buildable}
use Rattle.stencil.specs.Stencil.{start_of, ended_at, Stencil, joined, add_cell, below, answer_of, slices_after, stencil_answer, stencil_slices}
use Rattle.stencil.specs.Building.{Equation, building, Solved, Course, record_numbers}
use Rattle.stencil.proofs.inner.build.Whole.{length_ended}
use Rattle.stencil.proofs.inner.build.Within.{Finishes, cell_within}

-- the records from `old` on, each followed by the next; those before it are as they were in l0
pub record Open (n limit old : ℕ) (l0 l : List ℕ) (used : ℕ) : Type 0 where
  pub size : length l ≡ 2 * n
  pub low : old ≤ used
  pub room : used ≤ n
  pub kept : (i : ℕ) → i < 2 * old → get_or l i 0 ≡ get_or l0 i 0
  pub source : (k : ℕ) → k < used → old ≤ k → first_at l k < limit
  pub next : (k : ℕ) → k < used → old ≤ k → second_at l k ≡ k + 2

module _ (l : List ℕ) (u s : ℕ) where
  abbrev put : List ℕ
  put = set (set l (2 * u) s) (2 * u + 1) (u + 2)

  put_before : (i : ℕ) → i < 2 * u → get_or put i 0 ≡ get_or l i 0
  put_before i h =
      let a : i < 2 * u + 1 = omega arith in
      get_or-set_other (set l (2 * u) s) (2 * u + 1) i (u + 2) 0 (ne_of_lt a) ∙ get_or-set_other l (2 * u) i s 0 (ne_of_lt h)

  put_first : 2 * u + 1 < length l → first_at put u ≡ s
  put_first h =
      let a : 2 * u < 2 * u + 1 = omega arith in
      let b : 2 * u < length l = omega arith in
      get_or-set_other (set l (2 * u) s) (2 * u + 1) (2 * u) (u + 2) 0 (ne_of_lt a) ∙ get_or-set_same l (2 * u) s 0 b

  put_second : 2 * u + 1 < length l → second_at put u ≡ u + 2
  put_second h = get_or-set_same (set l (2 * u) s) (2 * u + 1) (u + 2) 0 (rw (length-set l (2 * u) s) h)

module _ (n limit old : ℕ) (l0 : List ℕ) where
  opened : (l : List ℕ) (used : ℕ) (e : Equation) → Open n limit old l0 l used → used < n → e.source < limit
      → Open n limit old l0 (record_numbers l used e) (used + 1)
  unfolding record_numbers
  opened l used e o h q =
      let fit : 2 * used + 1 < length l = omega (arith, o.size) in
      record {
        size = length-set (set l (2 * used) e.source) (2 * used + 1) (used + 2) ∙ length-set l (2 * used) e.source ∙ o.size;
        low = omega (arith, o.low);
        room = omega arith;
        kept = λ i a. put_before l used e.source i (omega (arith, o.low)) ∙ o.kept i a;
        source =
            below_more (λ k. old ≤ k → first_at (put l used e.source) k < limit) used
            (λ k a b. rw (put_before l used e.source (2 * k) (omega arith)) (o.source k a b))
            (λ b. rw (put_first l used e.source fit) q);
        next =
            below_more (λ k. old ≤ k → second_at (put l used e.source) k ≡ k + 2) used
            (λ k a b. put_before l used e.source (2 * k + 1) (omega arith) ∙ o.next k a b)
            (λ b. put_second l used e.source fit);
      }

-- a sound chain among the first u records stays one where these records stay
carried : (l l2 : List ℕ) (u v limit left r : ℕ) → u ≤ v → ((i : ℕ) → i < 2 * u → get_or l2 i 0 ≡ get_or l i 0)
    → ends l u limit left r ≡ true → ends l2 v limit left r ≡ true
unfolding ends
carried l l2 u v limit zero r h k e = e
carried l l2 u v limit (suc left) zero h k e = refl
carried l l2 u v limit (suc left) (suc r) h k e =
    let p = and_true (leb (suc r) u) _ (rw (eqb-suc-zero r) at e) in
    let q = and_true (ltb (item_of l (suc r)) limit) _ p.1 in
    let below : suc r ≤ u = leb-true _ _ p.0 in
    let item : item_of l2 (suc r) ≡ item_of l (suc r) = k (2 * (suc r - 1)) (omega arith) in
    let onto : next_of l2 (suc r) ≡ next_of l (suc r) = k (2 * (suc r - 1) + 1) (omega arith) in
    let here : leb (suc r) v ≡ true = le-leb (suc r) v (omega arith) in
    rw (eqb-suc-zero r, here, item, q.0, onto) (carried l l2 u v limit left (next_of l (suc r)) h k q.1)

-- a cell's records once its chain has its end
module _ (limit old used : ℕ) (l : List ℕ) (source : (k : ℕ) → k < used → old ≤ k → first_at l k < limit)
    (next : (k : ℕ) → k + 1 < used → old ≤ k → second_at l k ≡ k + 2) (last : (k : ℕ) → k + 1 ≡ used → second_at l k ≡ 0) where
  runs : (j k : ℕ) → suc j + k ≡ used → old ≤ k → ends l used limit (suc j) (k + 1) ≡ true
  unfolding ends
  runs zero k h o =
      let back : k + 1 - 1 ≡ k = omega arith in
      let there : leb (k + 1) used ≡ true = le-leb (k + 1) used (omega arith) in
      let fit : ltb (first_at l k) limit ≡ true = lt-ltb _ _ (source k (omega arith) o) in
      rw (ne_eqb (k + 1) 0 (λ z. omega arith), there, back, fit, last k (omega arith))
  runs (suc j) k h o =
      let back : k + 1 - 1 ≡ k = omega arith in
      let there : leb (k + 1) used ≡ true = le-leb (k + 1) used (omega arith) in
      let fit : ltb (first_at l k) limit ≡ true = lt-ltb _ _ (source k (omega arith) o) in
      let onto : second_at l k ≡ k + 1 + 1 = next k (omega arith) o ∙ (omega arith) in
      rw (ne_eqb (k + 1) 0 (λ z. omega arith), there, back, fit, onto) (runs j (k + 1) (omega arith) (omega arith))

-- the chain of the cell whose records are those from `old` to `used`
module _ (n limit old : ℕ) (l0 l : List ℕ) (used : ℕ) (o : Open n limit old l0 l used) where
  abbrev closed : List ℕ
  closed = set l (2 * used - 1) 0

  closed_before : (i : ℕ) → i < 2 * used - 1 → get_or closed i 0 ≡ get_or l i 0
  closed_before i h = get_or-set_other l (2 * used - 1) i 0 0 (ne_of_lt h)

  chain_from : old < used → ends closed used limit (used - old) (old + 1) ≡ true
  chain_from h =
      let count : suc (used - old - 1) ≡ used - old = omega arith in
      rw (← count)
      (runs limit old used closed
      (λ k a b. rw (closed_before (2 * k) (omega arith)) (o.source k a b))
      (λ k a b. closed_before (2 * k + 1) (omega arith) ∙ o.next k (omega arith) b)
      (λ k a.
      let at : 2 * k + 1 ≡ 2 * used - 1 = omega arith in
      rw at (get_or-set_same l (2 * used - 1) 0 0 (omega (arith, o.size, o.room))))
      (used - old - 1) old (omega (arith, o.low)) (omega arith))

  pub own_chain : Chain (ended_at old used l) used limit (start_of old used)
  unfolding ended_at start_of ends
  own_chain =
      ⊎_elim
      (λ t.
      let h : old < used = ltb-true _ _ t in
      rw t (chained _ _ _ (used - old) _ (omega arith) (chain_from h)))
      (λ t. rw t (chained _ _ _ 0 _ zero-le refl))
      (cases (ltb old used))

  -- the records before are as they were
  pub ended_kept : (i : ℕ) → i < 2 * old → get_or (ended_at old used l) i 0 ≡ get_or l0 i 0
  unfolding ended_at
  ended_kept i h =
      ⊎_elim
      (λ t.
      let a : old < used = ltb-true _ _ t in
      rw t (closed_before i (omega arith) ∙ o.kept i h))
      (λ t. rw t (o.kept i h))
      (cases (ltb old used))

module _ (m : Lent) (records : ℕ) where
  abbrev limit : ℕ
  limit = from_cell m.mesh.counts.cells

  -- the chains of the cells below c are sound, among the records used
  record Sounding (c : ℕ) (s : Stencil) : Type 0 where
    size : length s.slices.equations ≡ 2 * records
    starts_size : length s.slices.starts ≡ m.mesh.counts.cells
    room : s.used ≤ records
    chain : (d : ℕ) → d < c → Chain s.slices.equations s.used limit (get_or s.slices.starts d 0)

  abbrev Sounds : ℕ → Course Stencil → Type 0
  Sounds c (Err e) = Unit {0}
  Sounds c (Ok s) = Sounding c s

  -- what the cell under way adds
  abbrev Opens : Stencil → ℕ → List ℕ → Type 0
  Opens s u l = Open records limit s.used s.slices.equations l u

  moved : (s : Stencil) (u : ℕ) (l : List ℕ) (r : ℕ) → Opens s u l → Chain s.slices.equations s.used limit r
      → Chain (ended_at s.used u l) u limit r
  moved s u l r o c =
      chained _ _ _ s.used _ o.low
      (carried s.slices.equations (ended_at s.used u l) s.used u limit s.used r o.low
      (ended_kept records limit s.used s.slices.equations l u o) c.sound)

  joined_sound : (c : ℕ) (s : Stencil) → c < m.mesh.counts.cells → Sounding c s → (o : Course Solved) → Finishes (Opens s) o → Sounds (c + 1) (joined c s o)
  unfolding joined
  joined_sound c s h g (Err e) p = tt
  joined_sound c s h g (Ok b) p =
      let first = start_of s.used b.used in
      let fit : c < length s.slices.starts = omega (arith, g.starts_size) in
      record {
        size = length_ended s.used b.used b.equations ∙ p.size;
        starts_size = length-set s.slices.starts c first ∙ g.starts_size;
        room = p.room;
        chain =
            below_more (λ d. Chain (ended_at s.used b.used b.equations) b.used limit (get_or (set s.slices.starts c first) d 0)) c
            (λ d a. rw (get_or-set_other s.slices.starts c d first 0 (ne_of_lt a)) (moved s b.used b.equations _ p (g.chain d a)))
            (rw (get_or-set_same s.slices.starts c first 0 fit) (own_chain records limit s.used s.slices.equations b.equations b.used p));
      }

  add_sound : Buildable m → (c : ℕ) (r : Course Stencil) → c < m.mesh.counts.cells → Sounds c r → Sounds (c + 1) (add_cell m records c r)
  unfolding add_cell
  add_sound good c (Err e) h g = tt
  add_sound good c (Ok s) h g =
      let start : Opens s s.used s.slices.equations =
      record {
        size = g.size;
        low = le_refl _;
        room = g.room;
        kept = λ i a. refl;
        source = λ k a b. absurd (omega arith);
        next = λ k a b. absurd (omega arith);
      } in
      joined_sound c s h g _
      (cell_within (Opens s) records m good (λ l u e o a b. opened records limit s.used s.slices.equations l u e o a b) c h
      (building s.used s.slices.equations s.slices.weights zero9) start)

  all_sound : Buildable m → (c : ℕ) → c ≤ m.mesh.counts.cells → Sounds c (below m records c)
  unfolding below
  all_sound good zero h = record {
    size = length-replicate _ _;
    starts_size = length-replicate _ _;
    room = zero-le;
    chain = λ d a. absurd (omega arith);
  }
  all_sound good (suc c) h =
      subst (λ (k : ℕ). Sounds k (add_cell m records c (below m records c))) (add-one c)
      (add_sound good c (below m records c) (omega arith) (all_sound good c (omega arith)))

  -- an accepted stencil: the equations of each cell are a sound chain
  pub sound : Buildable m → (s : Stencil) → below m records m.mesh.counts.cells ≡ Ok s → (c : ℕ) → c < m.mesh.counts.cells
      → Chain s.slices.equations records (from_cell m.mesh.counts.cells) (get_or s.slices.starts c 0)
  sound good s e c h =
      let g : Sounds m.mesh.counts.cells (Ok s) = rw e at (all_sound good m.mesh.counts.cells (le_refl _)) in
      chained _ _ _ s.used _ g.room
      (carried s.slices.equations s.slices.equations s.used records limit s.used _ g.room (λ i a. refl) (g.chain c h).sound)

  from_result : Buildable m → (r : Course Stencil) → below m records m.mesh.counts.cells ≡ r → accepted ≡ answer_of r → (c : ℕ) → c < m.mesh.counts.cells
      → Chain (slices_after m records r).equations records (from_cell m.mesh.counts.cells) (get_or (slices_after m records r).starts c 0)
  unfolding answer_of slices_after
  from_result good (Err r) e a c h = absurd (cc)
  from_result good (Ok s) e a c h = sound good s e c h

  -- the same of what is handed out, for a caller that is answered `Accepted`
  pub accepted_sound : Buildable m → accepted ≡ stencil_answer m records → (c : ℕ) → c < m.mesh.counts.cells
      → Chain (stencil_slices m records).equations records (from_cell m.mesh.counts.cells) (get_or (stencil_slices m records).starts c 0)
  unfolding stencil_answer stencil_slices
  accepted_sound good a c h = from_result good (below m records m.mesh.counts.cells) refl a c h
