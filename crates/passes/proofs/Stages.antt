-- A pass over items with two sequences of refusals, as a loop makes it: what holds at the loop's head, and how a turn, the end and a refusal go on from there. Assumes nothing.
use Rattle.std.specs.Prelude.{Ok, Err}
use mathlib.Core.Path.{◌≡◌, refl, sym, ◌∙◌}
use mathlib.Core.List.{List}
use Prim.Native.Nat.{ℕ, ◌+◌, ◌<◌, ◌≤◌, zero-le}
use native.Mathlib.Omega.{arith}
use native.Mathlib.Nat.{le_antisymm}
use native.Mathlib.Numerals.{add-one, add-one-le}
use lib.ListN.{length, take, set, length-set}
use lib.Seq.{take-suc-set, take_all}
use lib.Ieee.{Float}
use Rattle.refusal.specs.declared.Reason.{Reason}
use Rattle.refusal.specs.declared.Refusal.{Refusal}
use Rattle.mesh.specs.Answers.{or_else, Answer, Outcome, accepted, refused}
use Rattle.mesh.specs.Pass.{after, first_refusal, value_of, list_of, values_of, handed_out}
use Rattle.mesh.proofs.Facts.{refused_at}
use Rattle.passes.specs.Staged.{two_refusals, staged, stored_at}

-- what is handed out, where an accepted pass leaves its list
pub handed : (a : Answer) (m n : ℕ) (l new : List Float) → m ≡ n → (a ≡ accepted → new ≡ l) → handed_out a m new ≡ handed_out a n l
unfolding handed_out
handed (Ok u) m n l new e h = h refl
handed (Err k) m n l new e h = rw e

pub never_accepted : (e : Refusal) → ◌≡◌ {A = Answer} (Err e) accepted → ⊥
never_accepted e h = let z : ◌≡◌ {A = ℕ} 0 1 = cc in absurd (omega arith)

-- what is handed out, where the answer is known to accept
pub handed_out_lem : (a : Answer) (n : ℕ) (l : List Float) → a ≡ accepted → handed_out a n l ≡ l
unfolding handed_out
handed_out_lem a n l e = rw e

-- an item that does not refuse in the first sequence, and what it comes to in the second
goes_late : (a b c : Outcome) → staged a b ≡ Ok c → (after accepted a 0 ≡ accepted) × (b ≡ c)
unfolding staged after
goes_late (Err j) b c e = cc
goes_late (Ok v) b c e = (refl, cc)

-- one that does
goes_early : (a b : Outcome) (k : Reason) → staged a b ≡ Err k → a ≡ Err k
unfolding staged
goes_early (Err j) b k e = cc
goes_early (Ok v) b k e = cc

-- below i the first sequence has no refusal, `late` is that of the second, and where that has none the values stand in `out`
pub record Both (g h : ℕ → Outcome) (n : ℕ) (out : List Float) (late : Answer) (i : ℕ) : Type 0 where
  pub size : length out ≡ n
  pub within : i ≤ n
  pub none : first_refusal g i ≡ accepted
  pub second : first_refusal h i ≡ late
  pub done : late ≡ accepted → take i out ≡ values_of h i

module _ (g h : ℕ → Outcome) (n : ℕ) where
  pub start : (out : List Float) → length out ≡ n → Both g h n out accepted 0
  unfolding first_refusal list_of
  start out e = record { size = e; within = zero-le; none = refl; second = refl; done = λ _. refl }

  -- an item that neither sequence refuses
  pub kept : (out : List Float) (late : Answer) (i : ℕ) (v : Float) → staged (g i) (h i) ≡ Ok (Ok v) → Both g h n out late i → i < n → Both g h n (set out i v) late (i + 1)
  unfolding first_refusal list_of after value_of
  kept out late i v e p l =
      let w = goes_late (g i) (h i) (Ok v) e in
      record {
        size = length-set out i v ∙ p.size;
        within = add-one-le l;
        none = rw (add-one, p.none) (passes (g i) w.0);
        second = rw (add-one, w.1) (keeps (first_refusal h i) late p.second);
        done = λ a.
            let m : i < length out = omega (arith, p.size) in
            rw (add-one, take-suc-set out i v m, p.done a, w.1);
      }
    where
      passes : (a : Outcome) → after accepted a 0 ≡ accepted → after accepted a i ≡ accepted
      passes (Ok u) e = refl
      passes (Err k) e = cc

      keeps : (a late : Answer) → a ≡ late → after a (Ok v) i ≡ late
      keeps (Ok u) late e = e
      keeps (Err e) late d = d

  -- one that the second refuses
  pub missed : (out : List Float) (late : Answer) (i : ℕ) (k : Reason) → staged (g i) (h i) ≡ Ok (Err k) → Both g h n out late i → i < n → Both g h n out (after late (Err k) i) (i + 1)
  unfolding first_refusal list_of after value_of
  missed out late i k e p l =
      let w = goes_late (g i) (h i) (Err k) e in
      record {
        size = p.size;
        within = add-one-le l;
        none = rw (add-one, p.none) (passes (g i) w.0);
        second = rw (add-one, w.1, p.second);
        done = λ a. never late a;
      }
    where
      passes : (a : Outcome) → after accepted a 0 ≡ accepted → after accepted a i ≡ accepted
      passes (Ok u) e = refl
      passes (Err k) e = cc

      never : (a : Answer) → after a (Err k) i ≡ accepted → take (i + 1) out ≡ values_of h (i + 1)
      never (Ok u) e = cc
      never (Err e) d = cc

  -- a refusal of the first sequence at i is that of the whole
  pub stop : (out : List Float) (late : Answer) (i : ℕ) (k : Reason) → staged (g i) (h i) ≡ Err k → Both g h n out late i → i < n → two_refusals g h n ≡ refused k i
  unfolding or_else
  stop out late i k e p l = rw (refused_at g n i k p.none l (goes_early (g i) (h i) k e))

  pub finish : (out : List Float) (late : Answer) (i : ℕ) → Both g h n out late i → n ≤ i → (two_refusals g h n ≡ late) × (late ≡ accepted → out ≡ values_of h n)
  unfolding or_else
  finish out late i p l =
      let e : i ≡ n = le_antisymm p.within l in
      (rw (← e, p.none) p.second, λ a. rw (← e) (sym (take_all i out (omega (arith, p.size))) ∙ p.done a))

-- the numbers of the first sequence below i stand in a list, where it has room for n
pub record Stores (g : ℕ → Outcome) (n room : ℕ) (l : List Float) (i : ℕ) : Type 0 where
  pub size : length l ≡ room
  pub done : room ≡ n → take i l ≡ values_of g i

module _ (g : ℕ → Outcome) (n room : ℕ) where
  pub empty : (l : List Float) → length l ≡ room → Stores g n room l 0
  unfolding list_of
  empty l e = record { size = e; done = λ _. refl }

  -- an item that does not refuse in the first sequence, beside any second one
  pub stored : (h : ℕ → Outcome) (l new : List Float) (i : ℕ) (c : Outcome) → staged (g i) (h i) ≡ Ok c → new ≡ stored_at l i (g i) → Stores g n room l i → i < n → Stores g n room new (i + 1)
  unfolding stored_at list_of value_of after
  stored h l new i c es en p lt = rw en (put (g i) refl (goes_late (g i) (h i) c es).0)
    where
      put : (a : Outcome) → g i ≡ a → after accepted a 0 ≡ accepted → Stores g n room (stored_at l i a) (i + 1)
      put (Err k) eg nay = cc
      put (Ok v) eg nay = record {
        size = length-set l i v ∙ p.size;
        done = λ e.
            let m : i < length l = omega (arith, p.size, e, lt) in
            rw (add-one, take-suc-set l i v m, p.done e, eg);
      }
