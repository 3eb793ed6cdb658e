-- A pass that writes each item's number, by what holds at each index. Assumes nothing.
use mathlib.Core.Path.{◌≡◌, refl, sym, ◌∙◌}
use mathlib.Core.List.{List}
use Prim.Native.Nat.{ℕ, zero, suc, ◌<◌, ◌≤◌}
use native.Mathlib.Omega.{arith}
use lib.ListN.{length, get_or, take}
use lib.Seq.{take-suc, take_all}
use lib.Ieee.{Float, nan}
use Rattle.std.proofs.Common.{Ok, Err}
use Rattle.refusal.specs.declared.Reason.{Reason}
use Rattle.mesh.specs.Answers.{Outcome, accepted, refused as refused_for}
use Rattle.mesh.specs.Pass.{after, first_refusal, value_of, list_of, values_of}
use Rattle.mesh.proofs.Facts.{refused_at}
use Rattle.passes.specs.Staged.{Passes}

module _ (g : ℕ → Outcome) where
  none : (i : ℕ) (l : List Float) → ((k : ℕ) → k < i → g k ≡ Ok (get_or l k nan)) → first_refusal g i ≡ accepted
  unfolding first_refusal after
  none zero l h = refl
  none (suc i) l h = rw (none i l (λ k b. h k (omega (arith, b))), h i (omega arith))

  listed : (i : ℕ) (l : List Float) → i ≤ length l → ((k : ℕ) → k < i → g k ≡ Ok (get_or l k nan)) → take i l ≡ values_of g i
  unfolding list_of value_of
  listed zero l b h = refl
  listed (suc i) l b h = rw (take-suc l i nan (omega arith), listed i l (omega arith) (λ k b. h k (omega (arith, b))), h i (omega arith))

  pub all_filled : (l : List Float) (n : ℕ) → length l ≡ n → ((k : ℕ) → k < n → g k ≡ Ok (get_or l k nan)) → Passes (first_refusal g n) (values_of g n) accepted l
  all_filled l n e h = (sym (none n l h), λ _. sym (take_all n l (omega arith)) ∙ listed n l (omega arith) h)

  pub refused : (l m : List Float) (n i : ℕ) (k : Reason) → i < n → ((j : ℕ) → j < i → g j ≡ Ok (get_or l j nan)) → g i ≡ Err k → Passes (first_refusal g n) (values_of g n) (refused_for k i) m
  refused l m n i k b h q = (sym (refused_at g n i k (none i l h) b q), λ z. cc)
