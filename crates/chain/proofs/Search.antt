-- How a search goes on by one index, and what its end says. Assumes nothing.
use Rattle.std.specs.Prelude.{Option, None, Some}
use mathlib.Core.Path.{◌≡◌, refl, sym, subst}
use mathlib.Core.Logic.{⊎_elim}
use mathlib.Core.Bool.{Bool, true, false, cond}
use lib.Dec.{ltb}
use Prim.Native.Nat.{ℕ, zero, suc, ◌+◌, ◌<◌, ◌≤◌}
use native.Mathlib.Omega.{arith}
use native.Mathlib.Nat.{eq-or-lt_of_le, le_of_suc-le-suc, le_antisymm}
use native.Mathlib.Numerals.{add-one}
use native.Mathlib.Decide.{le_ind}
use Rattle.chain.specs.Search.{or_at, lowest_where, Lowest, lower}

-- no index below i, of n, has been found
pub record Searched (g : ℕ → Bool) (n i : ℕ) : Type 0 where
  pub within : i ≤ n
  pub none : lowest_where g i ≡ None

module _ (g : ℕ → Bool) (n : ℕ) where
  pub start : Searched g n 0
  unfolding lowest_where
  start = record { within = omega arith; none = refl }

  pub more : (i : ℕ) → Searched g n i → i < n → g i ≡ false → Searched g n (i + 1)
  unfolding lowest_where or_at
  more i s h e = record { within = omega arith; none = rw (add-one, s.none, e) }

  pub found : (i : ℕ) → Searched g n i → i < n → g i ≡ true → lowest_where g n ≡ Some i
  unfolding lowest_where or_at
  found i s h e = le_ind (λ m. lowest_where g m ≡ Some i) (rw (s.none, e)) (λ m k q. rw q) n h

  pub nothing : (i : ℕ) → Searched g n i → n ≤ i → lowest_where g n ≡ None
  nothing i s h = let e : i ≡ n = le_antisymm s.within h in rw (← e) s.none

none_was : (f : Option ℕ) (t : Bool) (n : ℕ) → or_at f t n ≡ None → (f ≡ None) × (t ≡ false)
unfolding or_at
none_was (Some k) t n h = (cc, cc)
none_was None true n h = (refl, cc)
none_was None false n h = (refl, refl)

-- where nothing was found, the test fails at each index
pub none_below : (g : ℕ → Bool) (n k : ℕ) → lowest_where g n ≡ None → k < n → g k ≡ false
unfolding lowest_where
none_below g zero k h l = absurd (omega arith)
none_below g (suc n) k h l =
    let w = none_was (lowest_where g n) (g n) n h in
    ⊎_elim (λ e. rw e w.1) (λ lt. none_below g n k w.0 lt) (eq-or-lt_of_le (le_of_suc-le-suc l))

-- of two searches neither found anything where the lower of them is nothing
pub none_lower : (a b : Option ℕ) → lower a b ≡ None → (a ≡ None) × (b ≡ None)
unfolding lower
none_lower None b h = (refl, h)
none_lower (Some i) None h = (h, refl)
none_lower (Some i) (Some j) h = absurd (go (ltb j i) h)
  where
    go : (t : Bool) → cond t (Some j) (Some i) ≡ None → ⊥
    go true e = let z : ◌≡◌ {A = ℕ} 0 1 = cc in omega arith
    go false e = let z : ◌≡◌ {A = ℕ} 0 1 = cc in omega arith

-- what a search finds is the lowest index at which the test holds
pub lowest_found : (g : ℕ → Bool) (n i : ℕ) → lowest_where g n ≡ Some i → Lowest g n i
unfolding lowest_where or_at
lowest_found g zero i h = let z : ◌≡◌ {A = ℕ} 0 1 = cc in absurd (omega arith)
lowest_found g (suc n) i h = go (lowest_found g n i) (lowest_where g n) (g n) refl refl h
  where
    go : (lowest_where g n ≡ Some i → Lowest g n i) → (f : Option ℕ) (t : Bool) → lowest_where g n ≡ f → g n ≡ t → or_at f t n ≡ Some i → Lowest g (suc n) i
    go r (Some k) t p q e =
        let same : k ≡ i = cc in
        let w = r (rw (← same) p) in
        record { within = omega (arith, w.within); holds = w.holds; none = w.none }
    go r None true p q e =
        let same : n ≡ i = cc in
        record { within = omega arith; holds = rw (← same) q; none = rw (← same) (λ j l. none_below g n j p l) }
    go r None false p q e = let z : ◌≡◌ {A = ℕ} 0 1 = cc in absurd (omega arith)

-- what holds at every index below i, at the start and one index on
pub below_none : (P : ℕ → Type 0) (j : ℕ) → j < 0 → P j
below_none P j h = absurd (omega (arith, h))

pub below_more : (P : ℕ → Type 0) (i : ℕ) → ((j : ℕ) → j < i → P j) → P i → (j : ℕ) → j < i + 1 → P j
below_more P i h p j l = ⊎_elim (λ e. subst P (sym e) p) (λ lt. h j lt) (eq-or-lt_of_le (at_most j i l))
  where
    at_most : (a b : ℕ) → a < b + 1 → a ≤ b
    at_most a b q = omega (arith, q)

-- where the test fails at each index, nothing is found
pub none_found : (g : ℕ → Bool) (n : ℕ) → ((i : ℕ) → i < n → g i ≡ false) → lowest_where g n ≡ None
unfolding lowest_where or_at
none_found g zero h = refl
none_found g (suc n) h = rw (none_found g n (λ i l. h i (omega (arith, l))), h n (omega arith))

-- where the test holds at an index and at no lower one, that index is found
pub found_at : (g : ℕ → Bool) (n i : ℕ) → i < n → g i ≡ true → ((j : ℕ) → j < i → g j ≡ false) → lowest_where g n ≡ Some i
unfolding lowest_where or_at
found_at g n i l e h = le_ind (λ m. lowest_where g m ≡ Some i) (rw (none_found g i h, e)) (λ m k q. rw q) n l
