-- What every append keeps, the stencil of a cell keeps: a property of the records used and their numbers.
use Rattle.std.specs.Prelude.{Option, None, Some, Ok, Err}
use Rattle.refusal.specs.Numbers.{refusal}
use Rattle.refusal.specs.declared.Reason.TheVariants.{SingularStencil}
use mathlib.Core.Path.{◌≡◌}
use mathlib.Core.List.{List, [], ◌∷◌}
use mathlib.Core.Bool.{Bool, true, false, cond}
use mathlib.Core.Logic.{⊎_elim}
use Prim.Native.Nat.{ℕ, zero, suc, ◌+◌, ◌-◌, ◌<◌, ◌≤◌, zero-le}
use native.Mathlib.Omega.{arith}
use lib.Dec.{ltb, eqb}
use borrow.Author.Tests.{ltb-true, eqb-false}
use Rattle.binary64.specs.Numbers.{eps, is_far}
use Rattle.vector.specs.Vector.{norm_squared, difference, norm}
use Rattle.vector.specs.declared.Vec3.{Vec3}
use Rattle.stencil.specs.Ring.{in_ring, up_from, ring}
use Rattle.mesh.specs.declared.Condition.{Condition}
use Rattle.mesh.specs.declared.Condition.TheVariants.{Absent, Fixed, ZeroGradient}
use Rattle.numerics.specs.Slices.{from_cell}
use Rattle.stencil.proofs.inner.ring.Laws.{cases}
use Rattle.stencil.proofs.Walks.{Bounded, walk_bounded}
use Rattle.matrix.specs.declared.Normal.{Normal}
use Rattle.stencil.specs.declared.inner.cell.Offer.{Offer}
use Rattle.stencil.specs.declared.inner.cell.Offer.TheVariants.{Closing, Missing, Difference}
use Rattle.mesh.specs.Records.{owner_at, neighbour_at, peer_at, condition_at, centre, face_normal}
use Rattle.stencil.specs.Lent.{Lent, Buildable, cell_faces, web_of}
use Rattle.stencil.specs.Building.{Equation, source_number, Building, Solved, Course, and_then, over_all, record_numbers, push}
use Rattle.stencil.specs.Cell.{wall, offer, weighted, offered, add_face, gather, add_ring, extend, add_normal, closing}
use Rattle.stencil.specs.Cell.{add_closing, close, settle, inverse_of, finished, finish, widened, widen, gathered, cell_stencil}
use Rattle.stencil.proofs.inner.build.Laws.{below-pred, peer_face}
use lib.Ieee as Ieee

up_bounded : (p : ℕ → Bool) (limit n d : ℕ) → n + d ≤ limit → Bounded limit (up_from p n d)
unfolding up_from
up_bounded p limit zero d h = zero-le
up_bounded p limit (suc n) d h =
    ⊎_elim (λ t. rw t (omega arith, up_bounded p limit n (d + 1) (omega arith))) (λ t. rw t (up_bounded p limit n (d + 1) (omega arith)))
    (cases (p d))

-- what an offer's source is below
abbrev Sourced : ℕ → Offer → Type 0
Sourced limit Closing = 0 ≤ limit
Sourced limit Missing = 0 ≤ limit
Sourced limit (Difference s o v) = source_number s < limit

wall_sourced : (limit : ℕ) (k : Condition) (away : Vec3) → 1 < limit → Sourced limit (wall k away)
unfolding wall
wall_sourced limit Absent away h = zero-le
wall_sourced limit (Fixed v) away h = h
wall_sourced limit ZeroGradient away h = zero-le

offer_sourced : (m : Lent) → Buildable m → (c f : ℕ) → f < m.mesh.counts.faces → Sourced (from_cell m.mesh.counts.cells) (offer m c f)
unfolding offer
offer_sourced m g c f h =
    ⊎_elim
    (λ t.
    let t1 : eqb (neighbour_at m.mesh.adjacency f) 0 ≡ true = t in
    ⊎_elim
    (λ u.
    let u1 : eqb (peer_at m.bounds.codes f) 0 ≡ true = u in
    rw (t1, u1) (wall_sourced (from_cell m.mesh.counts.cells) (condition_at m.bounds.codes m.bounds.values f) _ (omega arith)))
    (λ u.
    let u1 : eqb (peer_at m.bounds.codes f) 0 ≡ false = u in
    let o = (g.sound.faces (peer_at m.bounds.codes f - 1) (below-pred (peer_face m g f h) (eqb-false _ _ u1))).owner in
    rw (t1, u1) (omega (arith, o)))
    (cases (eqb (peer_at m.bounds.codes f) 0)))
    (λ t.
    let t1 : eqb (neighbour_at m.mesh.adjacency f) 0 ≡ false = t in
    ⊎_elim
    (λ u.
    let u1 : eqb (owner_at m.mesh.adjacency f) c ≡ true = u in
    rw (t1, u1) (omega (arith, below-pred (g.sound.faces f h).neighbour (eqb-false _ _ t1))))
    (λ u.
    let u1 : eqb (owner_at m.mesh.adjacency f) c ≡ false = u in
    rw (t1, u1) (omega (arith, (g.sound.faces f h).owner)))
    (cases (eqb (owner_at m.mesh.adjacency f) c)))
    (cases (eqb (neighbour_at m.mesh.adjacency f) 0))

module _ (P : ℕ → List ℕ → Type 0) where
  -- a course has the property, where it goes on; and that of a finished cell
  abbrev pub Within : Course Building → Type 0
  Within (Err e) = Unit {0}
  Within (Ok b) = P b.used b.equations

  abbrev pub Finishes : Course Solved → Type 0
  Finishes (Err e) = Unit {0}
  Finishes (Ok b) = P b.used b.equations

  abbrev Keeps : (Building → Course Building) → Type 0
  Keeps g = (b : Building) → P b.used b.equations → Within (g b)

  abbrev KeepsTo : (Building → Course Solved) → Type 0
  KeepsTo g = (b : Building) → P b.used b.equations → Finishes (g b)

  either_way : (t : Bool) (a b : Course Building) → Within a → Within b → Within (cond t a b)
  either_way true a b p q = p
  either_way false a b p q = q

  then_within : (o : Course Building) (g : Building → Course Building) → Within o → Keeps g → Within (and_then o g)
  then_within (Err e) g p q = p
  then_within (Ok b) g p q = q b p

  then_finishes : (o : Course Building) (g : Building → Course Solved) → Within o → KeepsTo g → Finishes (and_then o g)
  then_finishes (Err e) g p q = p
  then_finishes (Ok b) g p q = q b p

  one_finishes : (t : Bool) (a b : Course Solved) → Finishes a → Finishes b → Finishes (cond t a b)
  one_finishes true a b p q = p
  one_finishes false a b p q = q

  all_within : (step : ℕ → Building → Course Building) (limit : ℕ) → ((i : ℕ) → i < limit → Keeps (step i)) → (is : List ℕ) → Bounded limit is
      → Keeps (over_all step is)
  all_within step limit h [] a b l = l
  all_within step limit h (i ∷ is) a b l = then_within (step i b) (over_all step is) (h i a.0 b l) (all_within step limit h is a.1)

  settle_within : (i : Option Normal) (b : Building) (o : Course Solved) → P b.used b.equations → Finishes o → Finishes (settle i b o)
  settle_within None b o l p = p
  settle_within (Some v) b o l p = l

  module _ (n : ℕ) (m : Lent) (g : Buildable m)
      (kept : (l : List ℕ) (u : ℕ) (e : Equation) → P u l → u < n → e.source < from_cell m.mesh.counts.cells → P (u + 1) (record_numbers l u e)) where
    push_within : (e : Equation) → e.source < from_cell m.mesh.counts.cells → Keeps (push n e)
    unfolding push
    push_within e s b l =
        ⊎_elim (λ t. rw t (kept b.equations b.used e l (ltb-true b.used n t) s)) (λ t. rw t tt) (cases (ltb b.used n))

    offered_within : (f : ℕ) (o : Offer) → Sourced (from_cell m.mesh.counts.cells) o → Keeps (offered n f o)
    unfolding offered weighted
    offered_within f Closing s b l = l
    offered_within f Missing s b l = tt
    offered_within f (Difference k o v) s b l = either_way (Ieee.le (norm_squared o) eps) _ _ tt (push_within _ s _ l)

    normal_within : (v : Vec3) → Keeps (add_normal n v)
    unfolding add_normal
    normal_within v b l = either_way (is_far (norm v)) _ _ (push_within _ (omega arith) _ l) l

    closing_within : (v : Vec3) (o : Offer) → Keeps (closing n v o)
    unfolding closing
    closing_within v Closing b l = normal_within v b l
    closing_within v Missing b l = l
    closing_within v (Difference s o w) b l = l

    module _ (c : ℕ) (h : c < m.mesh.counts.cells) where
      face_within : (f : ℕ) → f < m.mesh.counts.faces → Keeps (add_face m n c f)
      unfolding add_face
      face_within f a b l = offered_within f (offer m c f) (offer_sourced m g c f a) b l

      ring_within : (d : ℕ) → d < m.mesh.counts.cells → Keeps (add_ring m n c d)
      unfolding add_ring
      ring_within d a b l = either_way (is_far (norm_squared (difference (centre m.mesh.places d) (centre m.mesh.places c)))) _ _ (push_within _ (omega arith) _ l) l

      close_within : (f : ℕ) → f < m.mesh.counts.faces → Keeps (add_closing m n c f)
      unfolding add_closing
      close_within f a b l = closing_within (face_normal m.mesh.geometry f) (offer m c f) b l

      faces_bounded : Bounded m.mesh.counts.faces (cell_faces m.mesh c)
      faces_bounded = walk_bounded m.mesh.facing m.mesh.counts.facings m.mesh.counts.faces m.mesh.counts.facings _ (g.sound.facings c h)

      finish_within : KeepsTo (finish m n c)
      unfolding finish finished close
      finish_within b l =
          then_finishes _ (finished m c) (all_within (add_closing m n c) m.mesh.counts.faces close_within (cell_faces m.mesh c) faces_bounded b l)
          (λ d k. settle_within (inverse_of m d) d (Err (refusal SingularStencil c)) k tt)

      widen_within : KeepsTo (widen m n c)
      unfolding widen widened extend ring
      widen_within b l =
          then_finishes _ (widened m n c)
          (all_within (add_ring m n c) m.mesh.counts.cells ring_within (ring (web_of m.mesh) c)
          (up_bounded (in_ring (web_of m.mesh) c) m.mesh.counts.cells m.mesh.counts.cells 0 (omega arith)) b l)
          (λ d k. settle_within (inverse_of m d) d (finish m n c d) k (finish_within d k))

      pub cell_within : KeepsTo (cell_stencil m n c)
      unfolding cell_stencil gathered gather
      cell_within b l =
          then_finishes _ (gathered m n c) (all_within (add_face m n c) m.mesh.counts.faces face_within (cell_faces m.mesh c) faces_bounded b l)
          (λ d k.
          settle_within (inverse_of m d) d _ k (one_finishes (eqb m.mesh.counts.dimension 2) _ _ (widen_within d k) (finish_within d k)))
