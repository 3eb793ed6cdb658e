use Rattle.std.proofs.Common.{◌≡◌, ◌<◌, ℕ, List, map, get_or, refl, ap, ◌∙◌, arith}
use Rattle.std.specs.List.{range_with_len}
use Rattle.std.proofs.lemmas.List.FromFn.{get_or-map-range_with_len}
use Rattle.lines.specs.Lines.{line_of}
use Rattle.lines.proofs.inner.line.Goals as goal

line_at : (lines : List ℕ) (i : ℕ) → lines ≡ map line_of (range_with_len 0 256) → i < 256 → get_or lines i 0 ≡ line_of i
line_at lines i e l = ap (λ (xs : List ℕ). get_or xs i 0) e ∙ get_or-map-range_with_len line_of 0 256 i i 0 l (omega arith)

-- the table is what the formula computes, number by number
pub returns : goal.returns
unfolding line_of
returns c = line_at _ _ refl c.requires
