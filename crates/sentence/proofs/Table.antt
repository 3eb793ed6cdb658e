-- The table: what is computed of every row holds of each, and its numbers are those of the reasons. Assumes nothing.
use mathlib.Core.Path.{◌≡◌, refl, sym, ap, ◌∙◌}
use mathlib.Core.List.{List, [], ◌∷◌, ◌++◌, append_assoc, map}
use mathlib.Core.Bool.{Bool, true, false, cond, false≢true}
use Prim.Native.Nat.{ℕ, ◌≤◌}
use native.Mathlib.Omega.{arith}
use borrow.Author.Tests.{eqb-true, leb-true}
use lib.Dec.{eqb, leb, leb-zero}
use lib.ListN.{length}
use Rattle.refusal.specs.declared.Reason.{Reason}
use Rattle.refusal.specs.declared.Reason.TheVariants.{BadSize, WrongLength, OtherMesh, BadFace, BrokenChain, BadLink}
use Rattle.refusal.specs.declared.Reason.TheVariants.{TooNear, SingularStencil, BadCoefficient, NoCondition, BadDiagonal, BadVolume, CrowdedCell, WrongDistance}
use Rattle.refusal.specs.Numbers.{number_of, reasons}
use Rattle.sentence.specs.Sentence.{ascii, decimal, numbers, is_among, is_known, NumbersOfReasons, phrase, opening, sentence, opened, written, Short}
use Rattle.sentence.proofs.Digits.{at_most_20}
use Rattle.sentence.proofs.Place.{needed}

-- ---- what is computed of every row
unfoldable pub every : (ℕ → Bool) → List ℕ → Bool
every g [] = true
every g (k ∷ ks) = cond (g k) (every g ks) false

pub each : (g : ℕ → Bool) (ks : List ℕ) → every g ks ≡ true → (n : ℕ) → is_among ks n ≡ true → g n ≡ true
unfolding every
each g [] e n h = absurd (false≢true h)
each g (k ∷ ks) e n h = grind (arith, e, h, each g ks, eqb-true n k)

are_short : every (λ k. leb (length (opening k)) 20) numbers ≡ true
unfolding every
are_short = refl

pub short : (k : ℕ) → is_known k ≡ true → length (opening k) ≤ 20
short k e = leb-true (length (opening k)) 20 (each (λ k. leb (length (opening k)) 20) numbers are_short k e)

-- ---- the reasons
pub known : (reason : Reason) → is_known (number_of reason) ≡ true
known BadSize = refl
known WrongLength = refl
known OtherMesh = refl
known BadFace = refl
known BrokenChain = refl
known BadLink = refl
known TooNear = refl
known SingularStencil = refl
known BadCoefficient = refl
known NoCondition = refl
known BadDiagonal = refl
known BadVolume = refl
known CrowdedCell = refl
known WrongDistance = refl

found : (rs : List Reason) (n : ℕ) → is_among (map number_of rs) n ≡ true → (reason : Reason) × (number_of reason ≡ n)
found [] n h = absurd (false≢true h)
found (r ∷ rs) n h = go (eqb n (number_of r)) refl h (found rs n)
  where
    go : (b : Bool) → eqb n (number_of r) ≡ b → cond b true (is_among (map number_of rs) n) ≡ true
        → (is_among (map number_of rs) n ≡ true → (reason : Reason) × (number_of reason ≡ n)) → (reason : Reason) × (number_of reason ≡ n)
    go true q h later = (r, sym (eqb-true n (number_of r) q))
    go false q h later = later h

pub numbers_of_reasons : NumbersOfReasons
numbers_of_reasons = (known, λ n h. found reasons n h)

-- ---- the sentence
pub opens : (k i : ℕ) → is_known k ≡ true → sentence k i ≡ opening k ++ (decimal i ++ ascii ".")
unfolding sentence
opens k i e = rw e (sym (append_assoc (phrase k) (ascii " at ") (decimal i ++ ascii ".")))

-- what has the opening of a reason is its sentence
its_own : (reason : Reason) (i : ℕ) (first : List ℕ) → first ≡ opening (number_of reason) → opened first i ≡ sentence (number_of reason) i
its_own reason i first p = rw p (sym (opens (number_of reason) i (known reason)))

pub told_length : (reason : Reason) (i n : ℕ) (first : List ℕ) → first ≡ opening (number_of reason)
    → n ≡ length (opened first i) → n ≡ length (sentence (number_of reason) i)
told_length reason i n first p l = l ∙ ap length (its_own reason i first p)

pub told_left : (reason : Reason) (i : ℕ) (first old new : List ℕ) → first ≡ opening (number_of reason)
    → new ≡ written (opened first i) old → new ≡ written (sentence (number_of reason) i) old
told_left reason i first old new p w = w ∙ ap (λ t. written t old) (its_own reason i first p)

unknown : (n : ℕ) → ((reason : Reason) → number_of reason ≡ n → ⊥) → is_known n ≡ false
unknown n h = go (is_known n) refl
  where
    go : (b : Bool) → is_known n ≡ b → is_known n ≡ false
    go true e = let (reason, q) = numbers_of_reasons.1 n e in absurd (h reason q)
    go false e = e

-- none for a number that no reason has
pub untold_length : (n i : ℕ) → ((reason : Reason) → number_of reason ≡ n → ⊥) → 0 ≡ length (sentence n i)
unfolding sentence
untold_length n i h = rw (unknown n h) refl

pub untold_left : (n i : ℕ) (old : List ℕ) → ((reason : Reason) → number_of reason ≡ n → ⊥) → old ≡ written (sentence n i) old
unfolding sentence written
untold_left n i old h = rw (unknown n h, leb-zero (length old)) refl

-- how long it can be
pub at_most_41 : Short
unfolding sentence
at_most_41 k i h = let most = go (is_known k) refl in omega (arith, most)
  where
    go : (b : Bool) → is_known k ≡ b → length (sentence k i) ≤ 41
    go false e = rw e (omega arith)
    go true e =
        let d = at_most_20 i h in
        let o = short k e in
        let n = needed (opening k) (decimal i) in
        rw (opens k i e) (omega (arith, d, o, n))
