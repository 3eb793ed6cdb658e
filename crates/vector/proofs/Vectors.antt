-- A list of vectors that is filled from the front, three numbers a turn. Assumes nothing.
use mathlib.Core.Path.{◌≡◌, refl, sym, ◌∙◌}
use mathlib.Core.List.{List, [], ◌∷◌, ◌++◌, append_assoc}
use Prim.Native.Nat.{ℕ, suc, ◌+◌, ◌*◌, ◌<◌, ◌≤◌, zero-le}
use native.Mathlib.Omega.{arith}
use native.Mathlib.Nat.{le_antisymm}
use native.Mathlib.Numerals.{add-one, add-two, add-three, add-one-le}
use lib.ListN.{length, take, get_or, set, length-set}
use lib.Seq.{take-suc-set, take_all, get_or-set_other}
use lib.Ieee.{Float, nan}
use Rattle.vector.specs.Vector.{vectors_of, vector_at, put_vector}
use Rattle.vector.specs.declared.Vec3.{Vec3}

take-three : (l : List Float) (b : ℕ) (x y z : Float) → b + 2 < length l
    → take (b + 3) (set (set (set l b x) (b + 1) y) (b + 2) z) ≡ take b l ++ (x ∷ y ∷ z ∷ [])
take-three l b x y z h =
    let h1 : b < length l = omega arith in
    let h2 : suc b < length (set l b x) = simp length-set (omega arith) in
    let h3 : suc (suc b) < length (set (set l b x) (suc b) y) = simp length-set (omega arith) in
    rw (
      add-one,
      add-two,
      add-three,
      take-suc-set (set (set l b x) (suc b) y) (suc (suc b)) z h3,
      take-suc-set (set l b x) (suc b) y h2,
      take-suc-set l b x h1,
      append_assoc,
      append_assoc,
    )

pub length_put : (l : List Float) (i : ℕ) (v : Vec3) → length (put_vector l i v) ≡ length l
length_put l i v = simp length-set

-- below i, the records stand in `out`, three numbers of each
pub record Written (h : ℕ → Vec3) (n : ℕ) (out : List Float) (i : ℕ) : Type 0 where
  pub size : length out ≡ 3 * n
  pub within : i ≤ n
  pub done : take (3 * i) out ≡ vectors_of h i

module _ (h : ℕ → Vec3) (n : ℕ) where
  pub start : (out : List Float) → length out ≡ 3 * n → Written h n out 0
  unfolding vectors_of
  start out e = record { size = e; within = zero-le; done = refl }

  pub more : (out : List Float) (i : ℕ) (v : Vec3) → Written h n out i → i < n → v ≡ h i → Written h n (put_vector out i v) (i + 1)
  unfolding vectors_of
  more out i v p l e = record {
    size = length_put out i v ∙ p.size;
    within = add-one-le l;
    done =
        let e3 : 3 * (i + 1) ≡ 3 * i + 3 = omega arith in
        rw (e3, take-three out (3 * i) v.x v.y v.z (omega (arith, p.size)), p.done, add-one, e);
  }

  pub finish : (out : List Float) (i : ℕ) → Written h n out i → n ≤ i → out ≡ vectors_of h n
  finish out i p l =
      let e : i ≡ n = le_antisymm p.within l in
      rw (← e) (sym (take_all (3 * i) out (omega (arith, p.size))) ∙ p.done)

-- ---- a list whose vectors are replaced in place, one after the other

behind : (l : List Float) (i : ℕ) (v : Vec3) (j : ℕ) → 3 * i + 3 ≤ j → get_or (put_vector l i v) j nan ≡ get_or l j nan
behind l i v j h =
    get_or-set_other (set (set l (3 * i) v.x) (3 * i + 1) v.y) (3 * i + 2) j v.z nan (λ (e : j ≡ 3 * i + 2). omega (arith, h, e))
    ∙ get_or-set_other (set l (3 * i) v.x) (3 * i + 1) j v.y nan (λ (e : j ≡ 3 * i + 1). omega (arith, h, e))
    ∙ get_or-set_other l (3 * i) j v.x nan (λ (e : j ≡ 3 * i). omega (arith, h, e))

-- below i they are those of h, and the numbers behind are as they were
pub record Replaced (h : ℕ → Vec3) (n : ℕ) (old out : List Float) (i : ℕ) : Type 0 where
  pub written : Written h n out i
  pub rest : (j : ℕ) → 3 * i ≤ j → get_or out j nan ≡ get_or old j nan

module _ (h : ℕ → Vec3) (n : ℕ) (old : List Float) where
  pub replaced_start : length old ≡ 3 * n → Replaced h n old old 0
  replaced_start e = record { written = start h n old e; rest = λ j b. refl }

  pub replaced_read : (out : List Float) (i : ℕ) → Replaced h n old out i → vector_at out (3 * i) ≡ vector_at old (3 * i)
  replaced_read out i p = rw (p.rest (3 * i) (omega arith), p.rest (3 * i + 1) (omega arith), p.rest (3 * i + 2) (omega arith))

  pub replaced_more : (out : List Float) (i : ℕ) (v : Vec3) → Replaced h n old out i → i < n → v ≡ h i → Replaced h n old (put_vector out i v) (i + 1)
  replaced_more out i v p l e = record {
    written = more h n out i v p.written l e;
    rest = λ j b. behind out i v j (omega (arith, b)) ∙ p.rest j (omega (arith, b));
  }
