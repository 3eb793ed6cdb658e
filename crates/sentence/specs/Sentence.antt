-- The sentence of a refusal: the phrase of its number, ` at `, its index in decimal and a full stop, as ASCII codes. Definitions only.
use Rattle.std.specs.Prelude.{◌≡◌, List, [], ◌∷◌, ◌++◌, Bool, true, false, cond, length, get_or, drop}
use Rattle.std.specs.Prelude.{ℕ, zero, suc, ◌+◌, ◌-◌, ◌/◌, ◌%◌, ◌^◌, ◌<◌, ◌≤◌, eqb, ltb, leb}
use Rattle.refusal.specs.declared.Reason.{Reason}
use Rattle.refusal.specs.Numbers.{number_of}
use Prim.Native.Char.{code}
use Prim.Native.String.{String, [] as none, ◌∷◌ as ◌then◌}

-- the codes of a text
abbrev pub ascii : String → List ℕ
ascii none = []
ascii (c then s) = code c ∷ ascii s

-- the digits of n, where k is enough of them
abbrev pub digits : ℕ → ℕ → List ℕ
digits zero n = []
digits (suc k) n = cond (ltb n 10) ((48 + n) ∷ []) (digits k (n / 10) ++ ((48 + n % 10) ∷ []))

-- n in decimal: n + 1 digits are enough
abbrev pub decimal : ℕ → List ℕ
decimal n = digits (suc n) n

-- ---- the table
abbrev pub numbers : List ℕ
numbers = 1 ∷ 2 ∷ 3 ∷ 4 ∷ 5 ∷ 6 ∷ 7 ∷ 8 ∷ 9 ∷ 10 ∷ 11 ∷ 12 ∷ 14 ∷ 20 ∷ []

abbrev pub is_among : List ℕ → ℕ → Bool
is_among [] k = false
is_among (n ∷ ns) k = cond (eqb k n) true (is_among ns k)

abbrev pub is_known : ℕ → Bool
is_known k = is_among numbers k

-- the table's numbers are those of the reasons
abbrev pub NumbersOfReasons : Type 0
NumbersOfReasons =
    ((reason : Reason) → is_known (number_of reason) ≡ true)
    × ((n : ℕ) → is_known n ≡ true → (reason : Reason) × (number_of reason ≡ n))

-- the phrases of 1 to 12
abbrev pub phrases : List (List ℕ)
phrases =
    ascii "bad size"
    ∷ ascii "wrong length"
    ∷ ascii "other mesh"
    ∷ ascii "bad face"
    ∷ ascii "broken chain"
    ∷ ascii "bad link"
    ∷ ascii "too near"
    ∷ ascii "singular stencil"
    ∷ ascii "bad coefficient"
    ∷ ascii "no condition"
    ∷ ascii "bad diagonal"
    ∷ ascii "bad volume"
    ∷ []

-- a later number is named itself
abbrev pub phrase : ℕ → List ℕ
phrase k = cond (leb k 12) (get_or phrases (k - 1) []) (ascii "refusal " ++ decimal k)

-- what a number's sentences begin with
abbrev pub opening : ℕ → List ℕ
opening k = phrase k ++ ascii " at "

-- ---- the sentence of number k and index i; none for a number outside the table
unfoldable pub sentence : ℕ → ℕ → List ℕ
sentence k i = cond (is_known k) (phrase k ++ (ascii " at " ++ (decimal i ++ ascii "."))) []

-- any opening with an index and a full stop behind it
abbrev pub opened : List ℕ → ℕ → List ℕ
opened opening i = opening ++ (decimal i ++ ascii ".")

-- a slice with a text at its start, where it has room for all of it
unfoldable pub written : List ℕ → List ℕ → List ℕ
written text old = cond (leb (length text) (length old)) (text ++ drop (length text) old) old

-- the answer is how many bytes the sentence needs, and the slice has the sentence where there is room for it
pub record SentenceCall (k i : ℕ) (old : List ℕ) (r : ℕ) (new : List ℕ) : Type 0 where
  pub needs : r ≡ length (sentence k i)
  pub leaves : new ≡ written (sentence k i) old

-- ---- two refusals with different number or index never share a sentence
abbrev pub NeverShared : Type 0
NeverShared = (k j i h : ℕ) → is_known k ≡ true → is_known j ≡ true → sentence k i ≡ sentence j h → (k ≡ j) × (i ≡ h)

-- 41 bytes are room for each whose index is of 64 bits
abbrev pub Short : Type 0
Short = (k i : ℕ) → i < 2 ^ 64 → length (sentence k i) ≤ 41
