-- What check 20 establishes, and what is left where the distances are made. Assumes nothing.
use Rattle.std.specs.Prelude.{None}
use mathlib.Core.Path.{◌≡◌, refl, ap, ◌∙◌}
use mathlib.Core.List.{List, [], ◌∷◌}
use mathlib.Core.Bool.{Bool, true, false, not, ◌&&◌, cond, true≢false}
use Prim.Native.Nat.{ℕ, zero, suc, ◌+◌, ◌-◌, ◌*◌, ◌/◌, ◌%◌, ◌<◌}
use native.Mathlib.Numerals.{add-one}
use native.Mathlib.Omega.{arith}
use lib.Dec.{T, eqb}
use lib.ListN.{length, get_or, set, length-set}
use lib.Seq.{get_or-set_other}
use lib.Ieee.{Float, nan, binary64, fits}
use borrow.Author.Tests.{eqb-true, not-false}
use Rattle.binary64.proofs.Identical.{same_is_equal}
use Rattle.vector.proofs.Norm.{norm_fits}
use Rattle.binary64.specs.Numbers.{zero64, same}
use Rattle.chain.proofs.Search.{none_below}
use Rattle.chain.proofs.Truth.{none_at}
use Rattle.mesh.specs.Distances.{owner_distance, neighbour_distance, other_distance, wrong_distances, wrong_between, lowest_wrong_distances, lowest_wrong_between, Carried}
use Rattle.mesh.specs.FaceDistances.{put_distances, with_distances}
use Rattle.mesh.specs.Records.{neighbour_at, face_centre, own_distance_at, other_distance_at, peer_at}

-- ---- what the check establishes

two_tests : (z q : Bool) → z ≡ false → (not z && not q) ≡ false → q ≡ true
two_tests false true e h = refl
two_tests false false e h = absurd (true≢false h)
two_tests true q e h = absurd (true≢false e)

pub carried_between : (a : List ℕ) (g p : List Float) → lowest_wrong_between a g p ≡ None → (f : ℕ) → f < length g / 11 → Carried a g p f
unfolding wrong_between
carried_between a g p h f l =
    let w = none_at (not (same (own_distance_at g f) (owner_distance a g p f)) ∷ (not (eqb (neighbour_at a f) 0) && not (same (other_distance_at g f) (neighbour_distance a g p f))) ∷ [])
    (none_below (wrong_between a g p) (length g / 11) f h l) in
    record { own = not-false _ (w 0); other = λ two. two_tests (eqb (neighbour_at a f) 0) _ (go (eqb (neighbour_at a f) 0) refl two) (w 1) }
  where
    go : (z : Bool) → eqb (neighbour_at a f) 0 ≡ z → (neighbour_at a f ≡ 0 → ⊥) → eqb (neighbour_at a f) 0 ≡ false
    go true e two = absurd (two (eqb-true _ _ e))
    go false e two = e

pub carried_linked : (a : List ℕ) (g p : List Float) (codes : List ℕ) → lowest_wrong_distances a g p codes ≡ None → (f : ℕ) → f < length g / 11 → Carried a g p f
unfolding wrong_distances other_distance
carried_linked a g p codes h f l =
    let w = none_at (not (same (own_distance_at g f) (owner_distance a g p f)) ∷ not (same (other_distance_at g f) (other_distance a g p codes f)) ∷ [])
    (none_below (wrong_distances a g p codes) (length g / 11) f h l) in
    record { own = not-false _ (w 0); other = λ two. go (eqb (neighbour_at a f) 0) refl two (not-false _ (w 1)) }
  where
    beyond : Float
    beyond = cond (eqb (peer_at codes f) 0) zero64 (owner_distance a g p (peer_at codes f - 1))

    go : (z : Bool) → eqb (neighbour_at a f) 0 ≡ z → (neighbour_at a f ≡ 0 → ⊥)
        → same (other_distance_at g f) (cond z beyond (neighbour_distance a g p f)) ≡ true → same (other_distance_at g f) (neighbour_distance a g p f) ≡ true
    go true e two h = absurd (two (eqb-true _ _ e))
    go false e two h = h

-- ---- the geometry with distances, the numbers beside which are as they were

apart : (n i : ℕ) → i % 11 < 9 → (i ≡ 11 * n + 9 → ⊥) × (i ≡ 11 * n + 10 → ⊥)
apart n i l = (λ e. omega (arith, l, e), λ e. omega (arith, l, e))

pub put_other : (l : List Float) (n i : ℕ) (x y : Float) → (i ≡ 11 * n + 9 → ⊥) → (i ≡ 11 * n + 10 → ⊥) → get_or (put_distances l n x y) i nan ≡ get_or l i nan
put_other l n i x y s t = get_or-set_other (set l (11 * n + 9) x) (11 * n + 10) i y nan t ∙ get_or-set_other l (11 * n + 9) i x nan s

module _ (a : List ℕ) (g p : List Float) (codes : List ℕ) where
  kept : (n i : ℕ) → i % 11 < 9 → get_or (with_distances a g p codes n) i nan ≡ get_or g i nan
  unfolding with_distances
  kept zero i l = refl
  kept (suc n) i l = let s = apart n i l in put_other (with_distances a g p codes n) n i _ _ s.0 s.1 ∙ kept n i l

  centre_kept : (n f : ℕ) → face_centre (with_distances a g p codes n) f ≡ face_centre g f
  centre_kept n f = rw (kept n (11 * f) (omega arith), kept n (11 * f + 1) (omega arith), kept n (11 * f + 2) (omega arith)) refl

  pub own_kept : (n f : ℕ) → owner_distance a (with_distances a g p codes n) p f ≡ owner_distance a g p f
  own_kept n f = rw (centre_kept n f) refl

  pub other_kept : (n f : ℕ) → other_distance a (with_distances a g p codes n) p codes f ≡ other_distance a g p codes f
  unfolding other_distance
  other_kept n f = rw (centre_kept n f, centre_kept n (peer_at codes f - 1)) refl

  pub long_kept : (n : ℕ) → length (with_distances a g p codes n) ≡ length g
  unfolding with_distances
  long_kept zero = refl
  long_kept (suc n) = length-set _ _ _ ∙ length-set _ _ _ ∙ long_kept n

  -- with one face more, by the centres that stand there
  pub next_face : (n : ℕ) (now new : List Float)
      → now ≡ with_distances a g p codes n
      → new ≡ put_distances now n (owner_distance a now p n) (other_distance a now p codes n)
      → new ≡ with_distances a g p codes (n + 1)
  unfolding with_distances
  next_face n now new e h =
      let own : owner_distance a now p n ≡ owner_distance a g p n = ap (λ (l : List Float). owner_distance a l p n) e ∙ own_kept n n in
      let other : other_distance a now p codes n ≡ other_distance a g p codes n = ap (λ (l : List Float). other_distance a l p codes n) e ∙ other_kept n n in
      rw add-one (h ∙ rw (own, other, e) refl)

-- ---- what is carried is the distance

pub own_carried : (a : List ℕ) (g p : List Float) (f : ℕ) → T (fits binary64 (own_distance_at g f)) → Carried a g p f → own_distance_at g f ≡ owner_distance a g p f
own_carried a g p f t h = same_is_equal _ _ t (norm_fits _) h.own

pub other_carried : (a : List ℕ) (g p : List Float) (f : ℕ) → T (fits binary64 (other_distance_at g f)) → Carried a g p f → (neighbour_at a f ≡ 0 → ⊥)
    → other_distance_at g f ≡ neighbour_distance a g p f
other_carried a g p f t h two = same_is_equal _ _ t (norm_fits _) (h.other two)
