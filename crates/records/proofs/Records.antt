-- Numbers three at a time: the laws `Numbered` and `Regrouped`, and the records of a list. Assumes nothing.
use Rattle.refusal.specs.declared.Reason.TheVariants.{WrongLength}
use Rattle.mesh.specs.Answers.{pass, accepted}
use Rattle.mesh.proofs.Facts.{passed}
use mathlib.Core.Path.{◌≡◌, refl, sym, ◌∙◌, ap}
use mathlib.Core.List.{List, [], ◌∷◌, ◌++◌, append_assoc, append-nil}
use mathlib.Core.Bool.{Bool, true, false}
use Prim.Native.Nat.{ℕ, zero, suc, ◌+◌, ◌*◌, ◌<◌}
use native.Mathlib.Omega.{arith}
use lib.Dec.{eqb}
use lib.Ieee.{Float}
use lib.ListN.{length, get_or}
use borrow.Author.Tests.{eq-eqb, ne_eqb, eqb-true, eqb-false}
use Rattle.vector.specs.Vector.{vectors_of, vector_at, zero3}
use Rattle.vector.specs.declared.Vec3.{Vec3}
use Rattle.records.specs.Records.{vectors, records_of, Numbered, Regrouped}

pub eqb_thrice : (m n : ℕ) → eqb (3 * m) (3 * n) ≡ eqb m n
eqb_thrice m n = go (eqb m n) refl
  where
    go : (t : Bool) → eqb m n ≡ t → eqb (3 * m) (3 * n) ≡ t
    go true e = eq-eqb _ _ (ap (λ (k : ℕ). 3 * k) (eqb-true m n e))
    go false e = ne_eqb _ _ (λ (p : 3 * m ≡ 3 * n). eqb-false m n e (omega arith))

append-vectors : (h : ℕ → Vec3) (n : ℕ) (l : List Float) → vectors (vectors_of h n ++ l) ≡ records_of h n ++ vectors l
unfolding vectors vectors_of records_of
append-vectors h zero l = refl
append-vectors h (suc n) l =
    ap vectors (append_assoc (vectors_of h n) ((h n).x ∷ (h n).y ∷ (h n).z ∷ []) l)
    ∙ append-vectors h n ((h n).x ∷ (h n).y ∷ (h n).z ∷ l)
    ∙ sym (append_assoc (records_of h n) (h n ∷ []) (vectors l))

pub regrouped : Regrouped
unfolding vectors
regrouped h n = ap vectors (sym (append-nil (vectors_of h n))) ∙ append-vectors h n [] ∙ append-nil (records_of h n)

three_more : (x y z : Float) (l : List Float) (i : ℕ) → vector_at (x ∷ y ∷ z ∷ l) (3 * suc i) ≡ vector_at l (3 * i)
three_more x y z l i =
    let e : 3 * suc i ≡ suc (suc (suc (3 * i))) = omega arith in
    let e1 : 3 * suc i + 1 ≡ suc (suc (suc (3 * i + 1))) = omega arith in
    let e2 : 3 * suc i + 2 ≡ suc (suc (suc (3 * i + 2))) = omega arith in
    rw (e1, e2, e)

pub numbered : Numbered
unfolding vectors
numbered [] i s = absurd (omega arith)
numbered (x ∷ []) i s = absurd (omega arith)
numbered (x ∷ y ∷ []) i s = absurd (omega arith)
numbered (x ∷ y ∷ z ∷ l) zero s = refl
numbered (x ∷ y ∷ z ∷ l) (suc i) s = numbered l i (omega arith) ∙ sym (three_more x y z l i)

-- what the check establishes
pub three_each : (numbers : List Float) (outs : ℕ) → pass WrongLength (eqb (length numbers) (3 * outs)) ≡ accepted → length numbers ≡ 3 * outs
three_each numbers outs h = eqb-true _ _ (passed WrongLength _ h)

-- a list of records that is read off its numbers, three at a time
pub handed : (numbers : List Float) (l : List Vec3) → length numbers ≡ 3 * length l
    → ((k : ℕ) → k < length l → get_or l k zero3 ≡ vector_at numbers (3 * k)) → l ≡ vectors numbers
unfolding vectors
handed [] [] e w = refl
handed (x ∷ numbers) [] e w = absurd (omega (arith, e))
handed [] (v ∷ l) e w = absurd (omega (arith, e))
handed (x ∷ []) (v ∷ l) e w = absurd (omega (arith, e))
handed (x ∷ y ∷ []) (v ∷ l) e w = absurd (omega (arith, e))
handed (x ∷ y ∷ z ∷ numbers) (v ∷ l) e w =
    let rest = handed numbers l (omega (arith, e)) (λ k b. w (suc k) (omega (arith, b)) ∙ three_more x y z numbers k) in
    rw (w zero (omega arith), rest)
