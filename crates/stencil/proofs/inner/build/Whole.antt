-- The pass over the cells, as the loop makes it: what holds at its head, and how a turn, the end and a refusal go on from there.
use Rattle.std.specs.Prelude.{true, false, Ok, Err}
use Rattle.std.specs.Result.{is_err}
use Rattle.refusal.specs.declared.Refusal.{Refusal}
use Rattle.mesh.specs.Answers.{Answer}
use mathlib.Core.Path.{◌≡◌, refl}
use mathlib.Core.List.{List}
use mathlib.Core.Logic.{⊎_elim}
use Prim.Native.Nat.{ℕ, ◌+◌, ◌<◌, ◌≤◌, zero-le}
use native.Mathlib.Numerals.{add-one}
use native.Mathlib.Decide.{le_ind}
use lib.Dec.{ltb}
use lib.ListN.{length, length-set, length-replicate}
use Rattle.numerics.specs.Slices.{Slices}
use Rattle.stencil.proofs.inner.ring.Laws.{cases}
use Rattle.stencil.specs.declared.lent.StencilMut.{StencilMut}
use Rattle.stencil.specs.Lent.{Lent}
use Rattle.stencil.specs.Building.{Course}
use Rattle.stencil.specs.Bundles.{slices_in, whole_of}
use Rattle.stencil.specs.Stencil.{ended_at, blank, cleared, SlicesSized, Filled}
use Rattle.stencil.specs.Stencil.{add_cell, below, answer_of, slices_after, stencil_answer, stencil_slices}

pub length_ended : (old used : ℕ) (l : List ℕ) → length (ended_at old used l) ≡ length l
unfolding ended_at
length_ended old used l = ⊎_elim (λ t. rw t (length-set l _ _)) (λ t. rw t) (cases (ltb old used))

module _ (m : Lent) (records : ℕ) where
  -- the cells below c are done, and their stencils stand in the slices
  pub record Pass (c used : ℕ) (s : Slices) : Type 0 where
    pub sized : SlicesSized m records s
    pub room : used ≤ records
    pub done : below m records c ≡ Ok (record { used = used; slices = s })

  pub start : (s : Slices) → s ≡ blank m records → Pass 0 0 s
  unfolding below
  start s e =
      rw e
      record {
        sized =
            record {
              starts = length-replicate _ _;
              equations = length-replicate _ _;
              weights = length-replicate _ _;
              inverses = length-replicate _ _;
            };
        room = zero-le;
        done = refl;
      }

  module _ (c used : ℕ) (s : Slices) (p : Pass c used s) (r : Course ℕ) (t : StencilMut)
      (is-cell : whole_of r t ≡ add_cell m records c (Ok (record { used = used; slices = s }))) where
    pub more : (u : ℕ) → r ≡ Ok u → SlicesSized m records (slices_in t) → u ≤ records → Pass (c + 1) u (slices_in t)
    unfolding below
    more u h f l = record { sized = f; room = l; done = rw (add-one, p.done, ← is-cell, h) }

    pub stop : (k : Refusal) → r ≡ Err k → c < m.mesh.counts.cells → below m records m.mesh.counts.cells ≡ Err k
    unfolding below add_cell
    stop k h l = le_ind (λ n. below m records n ≡ Err k) (rw (p.done, ← is-cell, h)) (λ n a q. rw q) m.mesh.counts.cells l

  -- what is handed out: the answer, and the slices
  abbrev pub Handed : Answer → Slices → Type 0
  Handed r s = (r ≡ stencil_answer m records) × (s ≡ stencil_slices m records)

  pub handed : (r : Answer) (s : Slices) → false ≡ is_err r → Filled m records r s → Handed r s
  unfolding stencil_answer stencil_slices answer_of slices_after
  handed (Ok u) s e f = rw f.1 (refl, refl)
  handed (Err k) s e f = cc

  pub turned_away : (r : Answer) (s out : Slices) → true ≡ is_err r → Filled m records r s → SlicesSized m records s → out ≡ cleared s → Handed r out
  unfolding stencil_answer stencil_slices answer_of slices_after
  turned_away (Ok u) s out e f l o = cc
  turned_away (Err k) s out e f l o = rw f (refl, rw (o, l.starts, l.equations, l.weights, l.inverses))
