-- Hex digits as text. `hex_digit_ascii d` is the ASCII code of the hex digit d, and `last_digits 16 k n` the text of n's last k hex digits.
use Rattle.std.specs.Prelude.{ℕ, ◌<◌, ◌≡◌, List, ◌∷◌, Option, Some, None}
use Rattle.std.specs.List.{flat_map}
use Rattle.io.specs.Digits.{hex_digit_ascii, last_digits}

-- The digit whose code is b, or none where b is the code of none.
abbrev pub Digit : ℕ → Option ℕ → Type 0
Digit b (Some d) = (d < 16) × (hex_digit_ascii d ≡ b)
Digit b None = (d : ℕ) → d < 16 → hex_digit_ascii d ≡ b → ⊥

-- The 16 hex digits of n.
unfoldable pub hex_text : ℕ → List ℕ
hex_text n = last_digits 16 16 n

-- The 16 hex digits of each word after a space.
unfoldable pub words_text : List ℕ → List ℕ
words_text words = flat_map (λ n. 32 ∷ hex_text n) words

-- The text is that of the number, or of none.
abbrev pub Spells : List ℕ → Option ℕ → Type 0
Spells text (Some n) = hex_text n ≡ text
Spells text None = (n : ℕ) → hex_text n ≡ text → ⊥
