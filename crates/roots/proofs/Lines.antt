-- Where the parts of a line stand, and a line from its parts. Assumes nothing.
use mathlib.Core.Path.{◌≡◌, sym, ap, ◌∙◌}
use mathlib.Core.List.{List, [], ◌∷◌, ◌++◌}
use Prim.Native.Nat.{ℕ}
use native.Mathlib.Omega.{arith}
use lib.ListN.{length, get_or, take, drop, length-drop, drop_of_length-le}
use lib.Seq.{split_at, get_or-drop}
use Rattle.pattern.specs.Text.{hex_text}
use Rattle.roots.specs.Text.{line_of}

module _ {t : List ℕ} (x root : ℕ) (e : line_of x root ≡ t) where
  pub line_length : length t ≡ 34
  unfolding line_of hex_text
  line_length = ap length (sym e)

  pub line_space : get_or t 16 0 ≡ 32
  unfolding line_of hex_text
  line_space = ap (λ (s : List ℕ). get_or s 16 0) (sym e)

  pub line_newline : get_or t 33 0 ≡ 10
  unfolding line_of hex_text
  line_newline = ap (λ (s : List ℕ). get_or s 33 0) (sym e)

  pub line_first : hex_text x ≡ take 16 t
  unfolding line_of hex_text
  line_first = ap (take 16) e

  pub line_second : hex_text root ≡ take 16 (drop 17 t)
  unfolding line_of hex_text
  line_second = ap (λ (s : List ℕ). take 16 (drop 17 s)) e

pub whole_line :
    (t : List ℕ) (x root : ℕ) →
    length t ≡ 34 →
    get_or t 16 0 ≡ 32 →
    get_or t 33 0 ≡ 10 →
    hex_text x ≡ take 16 t →
    hex_text root ≡ take 16 (drop 17 t) →
    line_of x root ≡ t
unfolding line_of hex_text
whole_line t x root l s n first second =
    let u : length (drop 17 t) ≡ 17 = rw length-drop (omega arith) in
    let front : t ≡ take 16 t ++ get_or t 16 0 ∷ drop 17 t = split_at t 16 0 (omega arith) in
    let back : drop 17 t ≡ take 16 (drop 17 t) ++ get_or (drop 17 t) 16 0 ∷ drop 17 (drop 17 t) = split_at (drop 17 t) 16 0 (omega arith) in
    let end : drop 17 (drop 17 t) ≡ [] = drop_of_length-le (drop 17 t) {i = 17} (omega arith) in
    let newline : get_or (drop 17 t) 16 0 ≡ 10 = get_or-drop 17 t 16 0 ∙ n in
    cc

-- What a line is, by its parts.
pub ruleset parts = (line_length, line_space, line_newline, whole_line)
