-- Two refusals never share a sentence: the index and the number are read back from it. Assumes nothing.
use mathlib.Core.Path.{◌≡◌, refl, sym, ap, ◌∙◌}
use mathlib.Core.List.{List, [], ◌∷◌, ◌++◌, append_cancel_right}
use mathlib.Core.Bool.{Bool, true, false, ◌&&◌, cond}
use Prim.Native.Nat.{ℕ, zero, suc, ◌+◌, ◌-◌, ◌*◌, ◌/◌, ◌%◌, ◌<◌}
use native.Mathlib.Omega.{arith}
use native.Mathlib.Nat.{mod-lt, div-add-mod'}
use borrow.Author.Tests.{ltb-true, ltb-false, lt-ltb, le-leb, ne_eqb, eqb-true}
use lib.Dec.{eqb, leb, ltb}
use Rattle.sentence.specs.Sentence.{ascii, digits, decimal, numbers, is_known, opening, sentence, NeverShared}
use Rattle.sentence.proofs.Table.{every, each, opens}

is_digit : ℕ → Bool
is_digit x = leb 48 x && ltb x 58

-- ---- the index, read from the left: a full stop ends it, and what is no digit begins it anew
read : ℕ → List ℕ → ℕ
read a [] = a
read a (x ∷ xs) = cond (eqb x 46) a (cond (is_digit x) (read (a * 10 + (x - 48)) xs) (read 0 xs))

-- what is read so far, of a text without a full stop
after : ℕ → List ℕ → ℕ
after a [] = a
after a (x ∷ xs) = cond (is_digit x) (after (a * 10 + (x - 48)) xs) (after 0 xs)

no_stop : List ℕ → Bool
no_stop [] = true
no_stop (x ∷ xs) = cond (eqb x 46) false (no_stop xs)

read_on : (a : ℕ) (xs ys : List ℕ) → no_stop xs ≡ true → read a (xs ++ ys) ≡ read (after a xs) ys
unfolding read after no_stop
read_on a [] ys h = refl
read_on a (x ∷ xs) ys h = grind (arith, h, read_on (a * 10 + (x - 48)) xs ys, read_on 0 xs ys)

after-append : (a : ℕ) (xs ys : List ℕ) → after a (xs ++ ys) ≡ after (after a xs) ys
unfolding after
after-append a [] ys = refl
after-append a (x ∷ xs) ys = grind (arith, after-append (a * 10 + (x - 48)) xs ys, after-append 0 xs ys)

-- ---- a number in decimal: no full stop, and it is read as itself
stop_later : (xs : List ℕ) (d : ℕ) → no_stop xs ≡ true → no_stop (xs ++ ((48 + d) ∷ [])) ≡ true
unfolding no_stop
stop_later [] d h = rw (ne_eqb (48 + d) 46 (λ e. omega (arith, e)))
stop_later (x ∷ xs) d h = grind (arith, h, stop_later xs d)

digits_stop : (k n : ℕ) → no_stop (digits k n) ≡ true
unfolding no_stop
digits_stop zero n = refl
digits_stop (suc k) n = grind (arith, stop_later [] n refl, stop_later (digits k (n / 10)) (n % 10) (digits_stop k (n / 10)))

after_digit : (a d : ℕ) → d < 10 → after a ((48 + d) ∷ []) ≡ a * 10 + d
unfolding after is_digit
after_digit a d h = rw (le-leb 48 (48 + d) (omega arith), lt-ltb (48 + d) 58 (omega arith)) (back)
  where
    back : a * 10 + (48 + d - 48) ≡ a * 10 + d
    back = omega arith

value : (k n : ℕ) → n < k → after 0 (digits k n) ≡ n
value zero n h = absurd (omega arith)
value (suc k) n h = go (ltb n 10) refl (λ p. value k (n / 10) p)
  where
    alone : 0 * 10 + n ≡ n
    alone = omega arith

    go : (b : Bool) → ltb n 10 ≡ b → (n / 10 < k → after 0 (digits k (n / 10)) ≡ n / 10)
        → after 0 (cond b ((48 + n) ∷ []) (digits k (n / 10) ++ ((48 + n % 10) ∷ []))) ≡ n
    go true e r = after_digit 0 n (ltb-true n 10 e) ∙ alone
    go false e r =
        let l = ltb-false n 10 e in
        after-append 0 (digits k (n / 10)) ((48 + n % 10) ∷ [])
        ∙ rw (r (omega (arith, h))) (after_digit (n / 10) (n % 10) (mod-lt n (omega arith)) ∙ div-add-mod' n 10)

read_decimal : (i : ℕ) → read 0 (decimal i ++ ascii ".") ≡ i
unfolding read
read_decimal i = read_on 0 (decimal i) (ascii ".") (digits_stop (suc i) i) ∙ value (suc i) i (omega arith)

-- ---- the first number of a list whose sentences begin with a text, 0 where none's do
same : List ℕ → List ℕ → Bool
same [] [] = true
same [] (y ∷ ys) = false
same (x ∷ xs) [] = false
same (x ∷ xs) (y ∷ ys) = cond (eqb x y) (same xs ys) false

first_opened : List ℕ → List ℕ → ℕ
first_opened [] text = 0
first_opened (k ∷ ks) text = cond (same text (opening k)) k (first_opened ks text)

opened : List ℕ → ℕ
opened text = first_opened numbers text

-- ---- the rows: an opening has no full stop, no digits at its end, and is its number's alone
are_stopless : every (λ k. no_stop (opening k)) numbers ≡ true
unfolding every no_stop
are_stopless = refl

are_ended : every (λ k. eqb (after 0 (opening k)) 0) numbers ≡ true
unfolding every after is_digit
are_ended = refl

are_told_apart : every (λ k. eqb (opened (opening k)) k) numbers ≡ true
unfolding every same first_opened opened
are_told_apart = refl

number_back : (k : ℕ) → is_known k ≡ true → opened (opening k) ≡ k
number_back k e = eqb-true (opened (opening k)) k (each (λ k. eqb (opened (opening k)) k) numbers are_told_apart k e)

-- ---- the sentence
index_back : (k i : ℕ) → is_known k ≡ true → read 0 (sentence k i) ≡ i
index_back k i e =
    ap (read 0) (opens k i e)
    ∙ read_on 0 (opening k) (decimal i ++ ascii ".") (each (λ k. no_stop (opening k)) numbers are_stopless k e)
    ∙ ap (λ (a : ℕ). read a (decimal i ++ ascii ".")) (eqb-true (after 0 (opening k)) 0 (each (λ k. eqb (after 0 (opening k)) 0) numbers are_ended k e))
    ∙ read_decimal i

pub never_shared : NeverShared
never_shared k j i h e f s =
    let same : i ≡ h = sym (index_back k i e) ∙ ap (read 0) s ∙ index_back j h f in
    let texts = sym (opens k i e) ∙ s ∙ opens j h f ∙ ap (λ n. opening j ++ (decimal n ++ ascii ".")) (sym same) in
    let openings = append_cancel_right (opening k) (opening j) (decimal i ++ ascii ".") texts in
    (sym (number_back k e) ∙ ap opened openings ∙ number_back j f, same)
