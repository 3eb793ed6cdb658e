-- What the checks establish once they pass. Assumes nothing.
use Rattle.refusal.specs.declared.Reason.TheVariants.{BadSize, WrongLength, OtherMesh}
use Rattle.std.specs.Prelude.{Option, None, Some, Ok, Err}
use mathlib.Core.Path.{◌≡◌, refl, sym}
use mathlib.Core.Logic.{inl, inr}
use mathlib.Core.List.{List, [], ◌∷◌}
use mathlib.Core.Bool.{Bool, true, false, not, cond}
use Prim.Native.Nat.{ℕ, zero, suc, ◌+◌, ◌-◌, ◌*◌, ◌/◌, ◌≤◌, ◌<◌}
use native.Mathlib.Decide.{le_ind}
use native.Mathlib.Nat.{eq-zero-or-pos}
use native.Mathlib.Omega.{arith}
use lib.Dec.{eqb, leb, ltb}
use lib.ListN.{length, get_or}
use borrow.Author.Tests.{eqb-true, eqb-false, ltb-true, ltb-false, leb-true, leb-false, not-false}
use Rattle.refusal.specs.declared.Reason.{Reason}
use Rattle.refusal.specs.declared.Refusal.{Refusal}
use Rattle.mesh.specs.Pass.{after, first_refusal}
use Rattle.mesh.specs.Answers.{Outcome, refused, or_else, first_of, pass, at, shape, Answer, accepted}
use Rattle.mesh.specs.Checks.{size_tests, sizes_ok, bad_face, lowest_bad_face, unknown_code, lowest_unknown_code, bad_link, lowest_bad_link}
use Rattle.chain.specs.Chains.{ends, head_at, cell_count, broken_cell, lowest_broken}
use Rattle.mesh.specs.Mesh.{lowest_four}
use Rattle.mesh.specs.Records.{owner_at, neighbour_at, peer_at}
use Rattle.degree.specs.Degree.{crowded, lowest_crowded, long, lowest_long, chain_length, most_faces, FewNamings}
use Rattle.mesh.specs.Facts.{Small, FacesIn, CodesIn, ChainsIn, LinkOf, LinksIn}
use Rattle.mesh.specs.declared.Counts.{Counts}
use Rattle.chain.specs.declared.Form.{Form}
use Rattle.chain.proofs.Truth.{every_at, none_at}
use Rattle.chain.proofs.Search.{none_below, none_lower}

-- ---- answers
pub both_accepted : (a b : Answer) → or_else a b ≡ accepted → (a ≡ accepted) × (b ≡ accepted)
unfolding or_else
both_accepted (Ok u) b h = (refl, h)
both_accepted (Err e) b h = (h, cc)

pub passed : (k : Reason) (t : Bool) → pass k t ≡ accepted → t ≡ true
unfolding pass
passed k true h = refl
passed k false h = cc

pub nothing_at : (k : Reason) (f : Option ℕ) → at k f ≡ accepted → f ≡ None
unfolding at
nothing_at k None h = refl
nothing_at k (Some i) h = cc

-- where a list of checks passes, each of them does
pub all_accepted : (l : List Answer) → first_of l ≡ accepted → (k : ℕ) → get_or l k accepted ≡ accepted
unfolding first_of
all_accepted [] h k = refl
all_accepted (a ∷ l) h zero = (both_accepted a (first_of l) h).0
all_accepted (a ∷ l) h (suc k) = all_accepted l (both_accepted a (first_of l) h).1 k

pub shape_accepted : (counts lengths numbers : Bool) → shape counts lengths numbers ≡ accepted → (counts ≡ true) × (lengths ≡ true) × (numbers ≡ true)
unfolding shape first_of
shape_accepted counts lengths numbers h =
    let one = both_accepted (pass BadSize counts) _ h in
    let two = both_accepted (pass WrongLength lengths) _ one.1 in
    let three = both_accepted (pass OtherMesh numbers) accepted two.1 in
    (passed BadSize counts one.0, passed WrongLength lengths two.0, passed OtherMesh numbers three.0)

-- ---- each check
pub small : (n : Counts) → sizes_ok n ≡ true → Small n
small n h =
    let w = every_at (size_tests n) h in
    record { some = ltb-true _ _ (w 0); cells = leb-true _ _ (w 1); faces = leb-true _ _ (w 2); facings = leb-true _ _ (w 3); borderings = leb-true _ _ (w 4) }

pub faces_in : (cells : ℕ) (adjacency : List ℕ) → lowest_bad_face cells adjacency ≡ None → FacesIn cells adjacency
faces_in cells adjacency h f l =
    let owner = owner_at adjacency f in
    let neighbour = neighbour_at adjacency f in
    let w =
    none_at (leb cells owner ∷ ltb cells neighbour ∷ eqb neighbour (owner + 1) ∷ [])
    (none_below (bad_face cells adjacency) (length adjacency / 2) f h l) in
    record { owner = leb-false _ _ (w 0); neighbour = ltb-false _ _ (w 1); apart = eqb-false _ _ (w 2) }

pub codes_in : (codes : List ℕ) → lowest_unknown_code codes ≡ None → CodesIn codes
codes_in codes h f l = ltb-false _ _ (none_below (unknown_code codes) (length codes / 2) f h l)

pub chains_in : (limit : ℕ) (records : List ℕ) (form : Form) (heads : List ℕ) → lowest_broken limit records form heads ≡ None → ChainsIn limit records form heads
unfolding broken_cell
chains_in limit records form heads h c l =
    let e = none_below (broken_cell limit records form heads) (cell_count form heads) c h l in
    record { sound = not-false (ends records (length records / 2) limit (length records / 2) (head_at form heads c)) e }

-- the same where the condition codes are searched too
pub coded_in : (cells : ℕ) (adjacency codes : List ℕ) → lowest_four cells adjacency codes ≡ None → FacesIn cells adjacency
coded_in cells adjacency codes h = faces_in cells adjacency (none_lower (lowest_bad_face cells adjacency) (lowest_unknown_code codes) h).0

pub few_namings : (cells : ℕ) (adjacency : List ℕ) → lowest_crowded cells adjacency ≡ None → FewNamings cells adjacency
unfolding crowded
few_namings cells adjacency h c l = ltb-false _ _ (none_below (crowded adjacency) cells c h l)

pub short_chains : (heads facing : List ℕ) → lowest_long heads facing ≡ None → (c : ℕ) → c < length heads / 2 → chain_length facing heads c ≤ most_faces
unfolding long
short_chains heads facing h c l = ltb-false _ _ (none_below (long facing heads) (length heads / 2) c h l)

-- the tests of a link, by the peer's
link_tests : (peer faces : ℕ) (z m r : Bool) → z ≡ eqb peer 0 → m ≡ ltb faces peer → (peer ≡ 0 → ⊥) → cond z false (cond m true r) ≡ false → (peer ≤ faces) × (r ≡ false)
link_tests peer faces true m r ez em nz h = absurd (nz (eqb-true peer 0 (sym ez)))
link_tests peer faces false true r ez em nz h = let z : ◌≡◌ {A = ℕ} 0 1 = cc in absurd (omega arith)
link_tests peer faces false false r ez em nz h = (ltb-false faces peer (sym em), h)

pub links_in : (adjacency codes : List ℕ) → lowest_bad_link adjacency codes ≡ None → LinksIn adjacency codes
unfolding bad_link
links_in adjacency codes h f l nz =
    let peer = peer_at codes f in
    let t =
    link_tests peer (length codes / 2) (eqb peer 0) (ltb (length codes / 2) peer) _ refl refl nz
    (none_below (bad_link adjacency codes) (length codes / 2) f h l) in
    let w = none_at (not (eqb (neighbour_at adjacency f) 0) ∷ eqb peer (f + 1) ∷ not (eqb (peer_at codes (peer - 1)) (f + 1)) ∷ []) t.1 in
    record {
      one_cell = eqb-true _ _ (not-false _ (w 0));
      present = t.0;
      other = eqb-false _ _ (w 1);
      back = eqb-true _ _ (not-false _ (w 2));
    }

-- a peer is a face + 1, or 0, where each link that there is has been found good
pub peer_below : (adjacency codes : List ℕ) (faces f : ℕ) → length codes ≡ 2 * faces → ((peer_at codes f ≡ 0 → ⊥) → LinkOf adjacency codes f) → peer_at codes f ≤ faces
peer_below adjacency codes faces f e links =
    elim (eq-zero-or-pos (peer_at codes f)) [
      | inl z ↦ omega arith
      | inr p ↦ let q = (links (λ z. absurd (omega arith))).present in omega arith
    ]

-- a check that refuses is the first refusal, and one that passes leaves it to what follows
pub refuses : (a b : Answer) (e : Refusal) → a ≡ Err e → or_else a b ≡ Err e
unfolding or_else
refuses a b e h = rw h

pub goes_on : (a b : Answer) → a ≡ accepted → or_else a b ≡ b
unfolding or_else
goes_on a b h = rw h

-- nothing follows the last check
pub or_accepted : (a : Answer) → or_else a accepted ≡ a
unfolding or_else
or_accepted (Ok u) = refl
or_accepted (Err e) = refl

-- how a list of checks goes on
pub ruleset in_order = (refuses, goes_on, or_accepted)

-- the checks of shape, and one after them, as a list
pub shape_first : (a b c : Bool) (x : Answer) → first_of (pass BadSize a ∷ pass WrongLength b ∷ pass OtherMesh c ∷ x ∷ []) ≡ or_else (shape a b c) x
unfolding shape first_of or_else pass
shape_first false b c x = refl
shape_first true false c x = refl
shape_first true true false x = refl
shape_first true true true x = or_accepted x

-- the first two of them
pub shape_two : (a b : Bool) → first_of (pass BadSize a ∷ pass WrongLength b ∷ []) ≡ shape a b true
unfolding shape first_of or_else pass
shape_two false b = refl
shape_two true false = refl
shape_two true true = refl

-- ---- a pass over items

-- where the items below i are accepted, a refusal at i is that of the whole
pub refused_at : (g : ℕ → Outcome) (n i : ℕ) (k : Reason) → first_refusal g i ≡ accepted → i < n → g i ≡ Err k → first_refusal g n ≡ refused k i
unfolding first_refusal after
refused_at g n i k none h e = le_ind (λ m. first_refusal g m ≡ refused k i) (rw (none, e)) (λ m l q. rw q) n h
