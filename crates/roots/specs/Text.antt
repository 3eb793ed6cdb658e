-- What a line of the list says.
use Rattle.std.specs.Prelude.{ℕ, ◌≡◌, List, [], ◌∷◌, ◌++◌, Option, Some, None}
use Rattle.pattern.specs.Text.{hex_text}
use Rattle.roots.specs.declared.line.Pair.{Pair}

-- The line of two patterns: the digits of each, with a space between and a newline behind.
unfoldable pub line_of : ℕ → ℕ → List ℕ
line_of x root = hex_text x ++ 32 ∷ hex_text root ++ 10 ∷ []

-- The text is the line of two patterns, or of none.
abbrev pub Holds : List ℕ → Option Pair → Type 0
Holds text (Some pair) = line_of pair.value pair.root ≡ text
Holds text None = (x root : ℕ) → line_of x root ≡ text → ⊥
