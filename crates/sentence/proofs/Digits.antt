-- The decimal of a number: its last digit, its length, and that std prints it. Assumes nothing.
use mathlib.Core.Path.{◌≡◌, sym, ap, ◌∙◌, subst}
use mathlib.Core.List.{List, [], ◌∷◌, ◌++◌}
use Prim.Native.Nat.{ℕ, zero, suc, ◌+◌, ◌/◌, ◌%◌, ◌^◌, ◌<◌, ◌≤◌}
use native.Mathlib.Omega.{arith}
use borrow.Author.Tests.{lt-ltb, le-ltb}
use lib.ListN.{length}
use Rattle.std.specs.Fmt as Fmt
use Rattle.std.proofs.lemmas.Fmt.{decimal_by_steps, length-decimal-le}
use Rattle.sentence.specs.Sentence.{digits, decimal}

one_digit : (k n : ℕ) → n < 10 → digits (suc k) n ≡ (48 + n) ∷ []
one_digit k n h = rw (lt-ltb n 10 h)

more_digits : (k n : ℕ) → 10 ≤ n → digits (suc k) n ≡ digits k (n / 10) ++ ((48 + n % 10) ∷ [])
more_digits k n h = rw (le-ltb n 10 h)

-- room for more digits than there are changes nothing
enough : (k m n : ℕ) → n < k → n < m → digits k n ≡ digits m n
enough zero m n h g = absurd (omega arith)
enough (suc k) zero n h g = absurd (omega arith)
enough (suc k) (suc m) n h g = grind (arith, enough k m (n / 10), one_digit k n, one_digit m n, more_digits k n, more_digits m n)

pub decimal-one : (n : ℕ) → n < 10 → decimal n ≡ (48 + n) ∷ []
decimal-one n h = one_digit n n h

pub decimal_more : (n : ℕ) → 10 ≤ n → decimal n ≡ decimal (n / 10) ++ ((48 + n % 10) ∷ [])
decimal_more n h = more_digits n n h ∙ ap (λ (t : List ℕ). t ++ ((48 + n % 10) ∷ [])) (enough n (suc (n / 10)) (n / 10) (omega arith) (omega arith))

-- as std prints it
pub as_printed : (n : ℕ) → n < 2 ^ 64 → Fmt.decimal n ≡ decimal n
as_printed n h = decimal_by_steps (λ m t. t ≡ decimal m) (λ m l. sym (decimal-one m l)) more n h
  where
    more : (m : ℕ) (t : List ℕ) → 10 ≤ m → t ≡ decimal (m / 10) → t ++ ((48 + m % 10) ∷ []) ≡ decimal m
    more m t l e = ap (λ d. d ++ ((48 + m % 10) ∷ [])) e ∙ sym (decimal_more m l)

pub at_most_20 : (n : ℕ) → n < 2 ^ 64 → length (decimal n) ≤ 20
at_most_20 n h = subst (λ t. length t ≤ 20) (as_printed n h) (length-decimal-le 20 n (omega arith) (omega arith) h)
