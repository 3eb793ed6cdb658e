-- The list of a pass's values, read at one item, and what a call leaves that is accepted. Assumes nothing.
use Rattle.mesh.specs.Answers.{Answer, Outcome, accepted}
use Rattle.std.specs.Prelude.{Ok, Err}
use mathlib.Core.Path.{◌≡◌, refl, sym, ap, ◌∙◌, subst}
use mathlib.Core.Logic.{⊎_elim}
use mathlib.Core.List.{[], ◌∷◌}
use Prim.Native.Nat.{ℕ, zero, suc, ◌+◌, ◌<◌}
use native.Mathlib.Nat.{eq-or-lt_of_le, le_of_suc-le-suc}
use native.Mathlib.Omega.{arith}
use lib.ListN.{length, get_or, length-append, get_or-append}
use lib.Seq.{get_or_at}
use lib.Ieee.{Float, nan}
use Rattle.mesh.specs.Pass.{after, first_refusal, value_of, list_of, values_of, if_refused}

pub length-list_of : (h : ℕ → Float) (n : ℕ) → length (list_of h n) ≡ n
unfolding list_of
length-list_of h zero = refl
length-list_of h (suc n) = length-append (list_of h n) (h n ∷ []) ∙ one (length (list_of h n)) n (length-list_of h n)
  where
    one : (a n : ℕ) → a ≡ n → a + 1 ≡ suc n
    one a n e = omega arith

pub get_or-list_of : (h : ℕ → Float) (n i : ℕ) → i < n → get_or (list_of h n) i nan ≡ h i
unfolding list_of
get_or-list_of h zero i l = absurd (omega arith)
get_or-list_of h (suc n) i l =
    ⊎_elim (λ (e : i ≡ n). get_or_at (list_of h n) (h n) [] nan i (length-list_of h n ∙ sym e) ∙ ap h (sym e))
    (λ (k : i < n). get_or-append (list_of h n) (h n ∷ []) nan i (subst (λ (j : ℕ). i < j) (sym (length-list_of h n)) k) ∙ get_or-list_of h n i k)
    (eq-or-lt_of_le (le_of_suc-le-suc l))

-- ---- an accepted pass has a value at each item
step_accepted : (a : Answer) (s : Outcome) (i : ℕ) → after a s i ≡ accepted → (a ≡ accepted) × ((v : Float) × (s ≡ Ok v))
unfolding after
step_accepted (Err e) s i h = let w : ◌≡◌ {A = ℕ} 0 1 = cc in absurd (omega arith)
step_accepted (Ok u) (Ok v) i h = (refl, (v, refl))
step_accepted (Ok u) (Err k) i h = let w : ◌≡◌ {A = ℕ} 0 1 = cc in absurd (omega arith)

value_below : (g : ℕ → Outcome) (n i : ℕ) → first_refusal g n ≡ accepted → i < n → (v : Float) × (g i ≡ Ok v)
unfolding first_refusal
value_below g zero i h l = absurd (omega arith)
value_below g (suc n) i h l =
    let w = step_accepted (first_refusal g n) (g n) n h in
    ⊎_elim (λ (e : i ≡ n). (w.1.0, ap g e ∙ w.1.1)) (λ (k : i < n). value_below g n i w.0 k) (eq-or-lt_of_le (le_of_suc-le-suc l))

-- the value of item i, which stands in the list
pub value_at : (g : ℕ → Outcome) (n i : ℕ) → first_refusal g n ≡ accepted → i < n → (v : Float) × (g i ≡ Ok v) × (get_or (values_of g n) i nan ≡ v)
unfolding value_of
value_at g n i h l =
    let w = value_below g n i h l in
    (w.0, w.1, get_or-list_of (λ (j : ℕ). value_of (g j)) n i l ∙ ap value_of w.1)

-- where the checks pass, a slice is what the work leaves
pub if_accepted : {A : Type 0} → (a : Answer) (old new : A) → a ≡ accepted → if_refused a old new ≡ new
unfolding if_refused
if_accepted a old new h = rw h
