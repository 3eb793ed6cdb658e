-- Hex digits as text. Assumes nothing.
use mathlib.Core.Path.{◌≡◌, refl, sym, ap, ◌∙◌}
use mathlib.Core.Bool.{Bool, true, false}
use mathlib.Core.List.{List, [], ◌∷◌}
use mathlib.Core.Logic.{⊎_elim}
use Prim.Native.Nat.{ℕ, zero, suc, ◌+◌, ◌-◌, ◌*◌, ◌/◌, ◌%◌, ◌^◌, ◌≤◌, ◌<◌}
use native.Mathlib.Nat.{mod-lt, not-suc-le-zero, eq-or-lt_of_le, le_of_suc-le-suc, lt_of_lt_of_le, pow-suc, pow-le-pow_right}
use native.Mathlib.Numerals.{add-one}
use native.Mathlib.Omega.{arith}
use borrow.Author.Tests.{lt-ltb, le-ltb, ltb-true, ltb-false}
use lib.Dec.{ltb}
use lib.ListN.{length, get_or, take, length-append, get_or-append}
use lib.Seq.{get_or_at, take-suc, take-length}
use Rattle.std.specs.Prelude.{Some, None}
use Rattle.io.specs.Digits.{hex_digit_ascii, last_digits}
use Rattle.pattern.specs.Text.{Digit, hex_text}

pub glyph_low : (d : ℕ) → d < 10 → hex_digit_ascii d ≡ 48 + d
glyph_low d h = simp (lt-ltb d 10 h)

pub glyph_high : (d : ℕ) → 10 ≤ d → hex_digit_ascii d ≡ 87 + d
glyph_high d h = simp (le-ltb d 10 h)

pub some_digit : (b d : ℕ) → d < 16 → hex_digit_ascii d ≡ b → Digit b (Some d)
some_digit b d h e = (h, e)

module _ (b : ℕ) (low : 48 ≤ b → b ≤ 57 → ⊥) (high : 97 ≤ b → b ≤ 102 → ⊥) where
  no_glyph : (e : ℕ) → e < 16 → hex_digit_ascii e ≡ b → (t : Bool) → ltb e 10 ≡ t → ⊥
  no_glyph e h q true g = let p = glyph_low e (ltb-true e 10 g) in low (omega arith) (omega (arith, ltb-true e 10 g))
  no_glyph e h q false g = let p = glyph_high e (ltb-false e 10 g) in high (omega (arith, ltb-false e 10 g)) (omega arith)

  -- A byte outside both ranges of codes is no digit's.
  pub no_digit : (e : ℕ) → e < 16 → hex_digit_ascii e ≡ b → ⊥
  no_digit e h q = no_glyph e h q (ltb e 10) refl

-- What each range of bytes is.
pub low_digit : (b : ℕ) → 48 ≤ b → b ≤ 57 → hex_digit_ascii (b - 48) ≡ b
low_digit b l h = glyph_low (b - 48) (omega arith) ∙ omega arith

pub high_digit : (b : ℕ) → 97 ≤ b → b ≤ 102 → hex_digit_ascii (b - 97 + 10) ≡ b
high_digit b l h = glyph_high (b - 97 + 10) (omega arith) ∙ omega arith

pub digits-length : (k n : ℕ) → length (last_digits 16 k n) ≡ k
digits-length zero n = refl
digits-length (suc k) n = simp length-append (omega (arith, digits-length k (n / 16)))

-- Each byte of a number's digits is the code of a digit.
pub has_digit : (k n i : ℕ) → i < k → ((e : ℕ) → e < 16 → hex_digit_ascii e ≡ get_or (last_digits 16 k n) i 0 → ⊥) → ⊥
has_digit zero n i h none = absurd (not-suc-le-zero h)
has_digit (suc k) n i h none =
    let l : length (last_digits 16 k (n / 16)) ≡ k = digits-length k (n / 16) in
    let d = hex_digit_ascii (n % 16) in
    ⊎_elim
    (λ e. none (n % 16) (mod-lt n (omega arith)) (sym (get_or_at (last_digits 16 k (n / 16)) d [] 0 i (l ∙ sym e))))
    (λ b. has_digit k (n / 16) i b
    (λ e s q. none e s (q ∙ sym (get_or-append (last_digits 16 k (n / 16)) (d ∷ []) 0 i (omega arith)))))
    (eq-or-lt_of_le (le_of_suc-le-suc h))

-- One digit more.
module _ (i n d : ℕ) (small : d < 16) where
  quotient : (n * 16 + d) / 16 ≡ n
  quotient = omega arith

  remainder : (n * 16 + d) % 16 ≡ d
  remainder = omega arith

  pub below_more : n < 16 ^ i → n * 16 + d < 16 ^ (i + 1)
  below_more h = rw (add-one, pow-suc) (omega arith)

  pub fits_more : i < 16 → n < 16 ^ i → n * 16 + d < 2 ^ 64
  fits_more h b = lt_of_lt_of_le (below_more b) (pow-le-pow_right {n = 16} (omega arith) {i = i + 1} {j = 16} (omega arith))

  pub spells_more :
      (t : List ℕ) → i < length t → hex_digit_ascii d ≡ get_or t i 0 →
      last_digits 16 i n ≡ take i t → last_digits 16 (i + 1) (n * 16 + d) ≡ take (i + 1) t
  spells_more t h g e = rw (add-one, take-suc t i 0, quotient, remainder) (cc)

-- 16 digits.
pub spells_all :
    (n k : ℕ) (t : List ℕ) → length t ≡ 16 → length t ≤ k → k ≤ length t →
    last_digits 16 k n ≡ take k t → hex_text n ≡ t
unfolding hex_text
spells_all n k t l a b e =
    let whole : length t ≡ k = omega arith in
    let digits : last_digits 16 k n ≡ t = e ∙ ap (λ (j : ℕ). take j t) (sym whole) ∙ take-length t in
    ap (λ (j : ℕ). last_digits 16 j n) (sym l ∙ whole) ∙ digits

pub hex-length : (n : ℕ) → length (hex_text n) ≡ 16
unfolding hex_text
hex-length n = digits-length 16 n

-- A text with a byte that is no digit's spells no number.
pub spells_none : (t : List ℕ) (n i : ℕ) → i < 16 → Digit (get_or t i 0) None → hex_text n ≡ t → ⊥
unfolding hex_text
spells_none t n i h none e =
    has_digit 16 n i h (λ k s q. none k s (q ∙ ap (λ (l : List ℕ). get_or l i 0) e))
