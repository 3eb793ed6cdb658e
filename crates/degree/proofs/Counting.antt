-- Counts that stop at 255, and what they say of each cell. Assumes nothing.
use mathlib.Core.Path.{◌≡◌, refl, sym, ap, ◌∙◌, subst}
use mathlib.Core.List.{List}
use mathlib.Core.Bool.{Bool, true, false, ◌||◌, cond}
use Prim.Native.Nat.{ℕ, zero, suc, ◌+◌, ◌-◌, ◌/◌, ◌<◌, ◌≤◌}
use native.Mathlib.Omega.{arith}
use native.Mathlib.Nat.{le_trans, lt_of_lt_of_le}
use borrow.Author.Tests.{ltb-true, ltb-false, lt-ltb, le-ltb, eqb-true, eqb-false}
use lib.Dec.{eqb, ltb, eqb-zero-suc, eqb-suc-suc, eqb-suc-zero}
use lib.ListN.{length, get_or, length-set, replicate, get_or-replicate}
use lib.Seq.{get_or-set_same, get_or-set_other}
use Rattle.chain.specs.Pairs.{first_at, second_at}
use Rattle.degree.specs.Degree.{FacesIn, count_where, names, crowded}
use Rattle.degree.specs.Counts.{capped, bumped, with_face, counted}

pub capped-suc : (n : ℕ) → capped (capped n + 1) ≡ capped (suc n)
capped-suc n = omega arith

-- where there are at least as many cells
pub wider : (cells n : ℕ) (adjacency : List ℕ) → cells ≤ n → FacesIn cells adjacency → FacesIn n adjacency
wider cells n adjacency h faces f l =
    let c = faces f l in
    record { owner = lt_of_lt_of_le c.owner h; neighbour = le_trans c.neighbour h; apart = c.apart }

-- ---- one store
module _ (l : List ℕ) where
  bump_read : (o c : ℕ) → c < length l → get_or (bumped l o) c 0 ≡ cond (eqb o c) (capped (get_or l c 0 + 1)) (get_or l c 0)
  bump_read o c h = go (eqb o c) refl
    where
      go : (b : Bool) → eqb o c ≡ b → get_or (bumped l o) c 0 ≡ cond b (capped (get_or l c 0 + 1)) (get_or l c 0)
      go true e = ap (λ (i : ℕ). get_or (bumped l i) c 0) (eqb-true o c e) ∙ get_or-set_same l c (capped (get_or l c 0 + 1)) 0 h
      go false e = get_or-set_other l o c (capped (get_or l o 0 + 1)) 0 (λ (q : c ≡ o). eqb-false o c e (sym q))

pub length_face : (adjacency : List ℕ) (f : ℕ) (l : List ℕ) → length (with_face adjacency f l) ≡ length l
unfolding with_face
length_face adjacency f l = go (eqb (second_at adjacency f) 0)
  where
    once : List ℕ
    once = bumped l (first_at adjacency f)

    go : (a : Bool) → length (cond a once (bumped once (second_at adjacency f - 1))) ≡ length l
    go true = simp length-set
    go false = simp length-set

-- one face, whose cells differ, read at one cell: one more where it names the cell
abbrev Reads : List ℕ → ℕ → ℕ → ℕ → Type 0
Reads l owner next c =
    get_or (cond (eqb next 0) (bumped l owner) (bumped (bumped l owner) (next - 1))) c 0
    ≡ cond (eqb owner c || eqb next (suc c)) (capped (get_or l c 0 + 1)) (get_or l c 0)

face_reads : (l : List ℕ) (owner next c : ℕ) → c < length l → (next ≡ owner + 1 → ⊥) → Reads l owner next c
face_reads l owner zero c h apart = rw (eqb-zero-suc c) (bump_read l owner c h ∙ same (eqb owner c))
  where
    same : (b : Bool) → cond b (capped (get_or l c 0 + 1)) (get_or l c 0) ≡ cond (b || false) (capped (get_or l c 0 + 1)) (get_or l c 0)
    same true = refl
    same false = refl
face_reads l owner (suc n) c h apart = rw (eqb-suc-zero n, less n, eqb-suc-suc n c) (last ∙ rw (bump_read l owner c h) (both (eqb owner c) (eqb n c) differ))
  where
    less : (n : ℕ) → suc n - 1 ≡ n
    less n = omega arith

    last : get_or (bumped (bumped l owner) n) c 0 ≡ cond (eqb n c) (capped (get_or (bumped l owner) c 0 + 1)) (get_or (bumped l owner) c 0)
    last = bump_read (bumped l owner) n c (subst (λ (k : ℕ). c < k) (sym (length-set l owner (capped (get_or l owner 0 + 1)))) h)

    differ : eqb owner c ≡ true → eqb n c ≡ true → ⊥
    differ p q = apart (let a = eqb-true owner c p in let b = eqb-true n c q in omega (arith, a, b))

    both : (a b : Bool) → (a ≡ true → b ≡ true → ⊥)
        → cond b (capped (cond a (capped (get_or l c 0 + 1)) (get_or l c 0) + 1)) (cond a (capped (get_or l c 0 + 1)) (get_or l c 0))
        ≡ cond (a || b) (capped (get_or l c 0 + 1)) (get_or l c 0)
    both true true q = absurd (q refl refl)
    both true false q = refl
    both false true q = refl
    both false false q = refl

-- ---- all faces below n
pub length_counted : (adjacency l : List ℕ) (n : ℕ) → length (counted adjacency l n) ≡ length l
unfolding counted
length_counted adjacency l zero = refl
length_counted adjacency l (suc n) = length_face adjacency n (counted adjacency l n) ∙ length_counted adjacency l n

pub counts : (adjacency l : List ℕ) (n c : ℕ) → ((f : ℕ) → f < n → second_at adjacency f ≡ first_at adjacency f + 1 → ⊥) → c < length l → get_or l c 0 ≡ 0
    → get_or (counted adjacency l n) c 0 ≡ capped (count_where (names adjacency c) n)
unfolding counted count_where with_face names
counts adjacency l zero c apart h z = z
counts adjacency l (suc n) c apart h z =
    face_reads (counted adjacency l n) (first_at adjacency n) (second_at adjacency n) c (subst (λ (k : ℕ). c < k) (sym (length_counted adjacency l n)) h) (apart n (omega arith))
    ∙ rw (counts adjacency l n c (λ f k. apart f (omega (arith, k))) h z) (go (eqb (first_at adjacency n) c || eqb (second_at adjacency n) (suc c)))
  where
    go : (b : Bool) → let k = count_where (names adjacency c) n in cond b (capped (capped k + 1)) (capped k) ≡ capped (cond b (suc k) k)
    go true = capped-suc (count_where (names adjacency c) n)
    go false = refl

-- the test of a count that stops at 255
pub over : (n : ℕ) → ltb 26 (capped n) ≡ ltb 26 n
over n = go (ltb 26 n) refl
  where
    go : (b : Bool) → ltb 26 n ≡ b → ltb 26 (capped n) ≡ b
    go true e = let h = ltb-true 26 n e in lt-ltb 26 (capped n) (omega (arith, h))
    go false e = let h = ltb-false 26 n e in le-ltb 26 (capped n) (omega (arith, h))

-- what a list that has counted every face from 0 says of a cell within it
pub tested : (adjacency old named : List ℕ) (cells c : ℕ) → old ≡ replicate (length old) 0 → FacesIn cells adjacency → c < length old
    → named ≡ counted adjacency old (length adjacency / 2) → ltb 26 (get_or named c 0) ≡ crowded adjacency c
unfolding crowded
tested adjacency old named cells c z faces h e =
    let zero-at : get_or old c 0 ≡ 0 = rw z (get_or-replicate (length old) c zero 0 h) in
    rw (e, counts adjacency old (length adjacency / 2) c (λ f l. (faces f l).apart) h zero-at) (over (count_where (names adjacency c) (length adjacency / 2)))
