-- The distances that are made: what their checks establish, and that they pass 20. Assumes nothing.
use Rattle.refusal.specs.declared.Reason.TheVariants.{WrongLength}
use mathlib.Core.Path.{◌≡◌, refl, sym, ◌∙◌, subst}
use mathlib.Core.Logic.{⊎_elim}
use mathlib.Core.List.{List}
use mathlib.Core.Bool.{Bool, true, false}
use Prim.Native.Nat.{ℕ, zero, suc, ◌+◌, ◌*◌, ◌/◌, ◌<◌, ◌≤◌}
use native.Mathlib.Nat.{eq-or-lt_of_le, le_of_suc-le-suc}
use native.Mathlib.Omega.{arith}
use lib.Dec.{eqb}
use lib.ListN.{length, set, length-set}
use lib.Seq.{get_or-set_same, get_or-set_other}
use lib.Ieee.{Float, nan}
use borrow.Author.Tests.{eqb-true}
use Rattle.mesh.specs.Answers.{accepted}
use Rattle.mesh.specs.Distances.{owner_distance, other_distance, wrong_distances, wrong_between}
use Rattle.mesh.specs.FaceDistances.{with_distances, distance_sizes, distance_checks, Passes20}
use Rattle.mesh.specs.Facts.{Placed, PeersIn}
use Rattle.mesh.specs.Records.{neighbour_at, own_distance_at, other_distance_at}
use Rattle.mesh.specs.declared.Counts.{Counts}
use Rattle.binary64.specs.Numbers.{same}
use Rattle.binary64.proofs.Identical.{equal_is_same}
use Rattle.chain.proofs.Search.{none_found}
use Rattle.chain.proofs.Truth.{every_at}
use Rattle.mesh.proofs.Facts.{all_accepted, passed}
use Rattle.mesh.proofs.Distances.{put_other, own_kept, other_kept, long_kept}
use Rattle.mesh.proofs.Good.{links_passed, peers_in}

pub record Measurable (n : Counts) (a : List ℕ) (p : List Float) (k : List ℕ) (geometry : ℕ) : Type 0 where
  pub placed : Placed n a p
  pub peers : PeersIn k n.faces
  pub long : geometry ≡ 11 * n.faces

pub measurable : (n : Counts) (a : List ℕ) (p : List Float) (number : ℕ) (k : List ℕ) (geometry : ℕ) → distance_checks n a p number k geometry ≡ accepted → Measurable n a p k geometry
unfolding distance_checks
measurable n a p number k geometry h =
    let s = all_accepted _ h in
    let w = every_at (distance_sizes n a p k geometry) (passed WrongLength _ (s 1)) in
    let linked = links_passed n.cells a k (s 3) in
    record {
      placed = record { adjacency = eqb-true _ _ (w 0); places = eqb-true _ _ (w 1); sides = linked.0 };
      peers = peers_in a k n.faces (eqb-true _ _ (w 2)) linked.2;
      long = eqb-true _ _ (w 3);
    }

-- ---- what is made passes

suc_bound : (n long : ℕ) → 11 * suc n ≤ long → 11 * n ≤ long
suc_bound n long h = omega (arith, h)

module _ (a : List ℕ) (g p : List Float) (k : List ℕ) where
  record Made (n f : ℕ) : Type 0 where
    own : own_distance_at (with_distances a g p k n) f ≡ owner_distance a g p f
    other : other_distance_at (with_distances a g p k n) f ≡ other_distance a g p k f

  last : (n : ℕ) → 11 * suc n ≤ length g → Made (suc n) n
  unfolding with_distances
  last n h =
      let l = with_distances a g p k n in
      let long = long_kept a g p k n in
      let longer = length-set l (11 * n + 9) (owner_distance a g p n) in
      record {
        own =
            get_or-set_other (set l (11 * n + 9) (owner_distance a g p n)) (11 * n + 10) (11 * n + 9) _ nan (λ e. omega (arith, e))
            ∙ get_or-set_same l (11 * n + 9) _ nan (omega (arith, h, long));
        other = get_or-set_same (set l (11 * n + 9) (owner_distance a g p n)) (11 * n + 10) _ nan (omega (arith, h, long, longer));
      }

  made : (n f : ℕ) → f < n → 11 * n ≤ length g → Made n f
  unfolding with_distances
  made zero f l h = absurd (omega (arith, l))
  made (suc n) f l h =
      ⊎_elim (λ (e : f ≡ n). subst (Made (suc n)) (sym e) (last n h))
      (λ (b : f < n).
      let before = made n f b (suc_bound n (length g) h) in
      record {
        own = put_other (with_distances a g p k n) n (11 * f + 9) _ _ (λ e. omega (arith, b, e)) (λ e. omega (arith, e)) ∙ before.own;
        other = put_other (with_distances a g p k n) n (11 * f + 10) _ _ (λ e. omega (arith, e)) (λ e. omega (arith, b, e)) ∙ before.other;
      })
      (eq-or-lt_of_le (le_of_suc-le-suc l))

  -- and is what the centres that stand there give
  record Right (n f : ℕ) : Type 0 where
    own : same (own_distance_at (with_distances a g p k n) f) (owner_distance a (with_distances a g p k n) p f) ≡ true
    other : same (other_distance_at (with_distances a g p k n) f) (other_distance a (with_distances a g p k n) p k f) ≡ true

  right_at : (n f : ℕ) → f < n → 11 * n ≤ length g → Right n f
  right_at n f l h =
      let m = made n f l h in
      record { own = equal_is_same _ _ (m.own ∙ sym (own_kept a g p k n f)); other = equal_is_same _ _ (m.other ∙ sym (other_kept a g p k n f)) }

  -- each face of as many as there are
  right : (n f : ℕ) → f < n → 11 * n ≤ length g → wrong_distances a (with_distances a g p k n) p k f ≡ false
  unfolding wrong_distances
  right n f l h = let w = right_at n f l h in rw (w.own, w.other) refl

  right_between : (n f : ℕ) → f < n → 11 * n ≤ length g → wrong_between a (with_distances a g p k n) p f ≡ false
  unfolding wrong_between other_distance
  right_between n f l h = let w = right_at n f l h in go (eqb (neighbour_at a f) 0) refl w.own w.other
    where
      now : List Float
      now = with_distances a g p k n

      go : (z : Bool) → eqb (neighbour_at a f) 0 ≡ z → same (own_distance_at now f) (owner_distance a now p f) ≡ true
          → same (other_distance_at now f) (other_distance a now p k f) ≡ true → wrong_between a now p f ≡ false
      go true e own other = rw (own, e) refl
      go false e own other = rw (own, e, rw e at other) refl

pub passes : (n : Counts) (a : List ℕ) (p : List Float) (k : List ℕ) (g new : List Float) → length g ≡ 11 * n.faces → new ≡ with_distances a g p k n.faces → Passes20 a p k new
passes n a p k g new e h =
    let long = long_kept a g p k n.faces in
    let all : length (with_distances a g p k n.faces) / 11 ≡ n.faces = omega (arith, e, long) in
    let most : 11 * n.faces ≤ length g = omega (arith, e) in
    subst (Passes20 a p k) (sym h)
    record {
      linked = none_found (wrong_distances a (with_distances a g p k n.faces) p k) _ (λ f l. right a g p k n.faces f (rw all at l) most);
      between = none_found (wrong_between a (with_distances a g p k n.faces) p) _ (λ f l. right_between a g p k n.faces f (rw all at l) most);
    }
