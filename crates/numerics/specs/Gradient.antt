-- The gradient of a cell field from a lent stencil. Definitions only.
use Rattle.refusal.specs.declared.Reason.TheVariants.{BadSize, WrongLength, OtherMesh, BrokenChain}
use Rattle.std.specs.Prelude.{◌≡◌, List, [], ◌∷◌, Bool, ◌&&◌, cond, ℕ, ◌+◌, ◌-◌, ◌*◌, ◌<◌, eqb, leb, length, get_or, Float}
use Rattle.std.specs.Float.{nan}
use Rattle.binary64.specs.Numbers.{◌⊖◌}
use Rattle.mesh.specs.Answers.{pass, at, first_of, Answer}
use Rattle.mesh.specs.Checks.{largest_count, sizes_ok}
use Rattle.mesh.specs.Pass.{if_refused}
use Rattle.chain.specs.Chains.{trail, lowest_broken, Chain}
use Rattle.vector.specs.Vector.{vectors_of, vector_at, vec, zero3, dot, sum, scaled}
use Rattle.mesh.specs.declared.Counts.{Counts}
use Rattle.vector.specs.declared.Vec3.{Vec3}
use Rattle.chain.specs.declared.Form.TheVariants.{Single}
use Rattle.numerics.specs.Slices.{Slices, lengths_of, stencil_sized, from_self, from_value, from_cell, source_of}

-- the other value of an equation, by its source
unfoldable pub source_value : List Float → Float → ℕ → Float → Float
source_value field own source value = cond (eqb source from_self) own (cond (eqb source from_value) value (get_or field (source - from_cell 0) nan))

-- the right side with the term of the record r: coefficient × (other − own)
unfoldable pub add_term : Slices → List Float → Float → ℕ → Vec3 → Vec3
add_term s field own r right =
    let b = 4 * (r - 1) in
    let other = source_value field own (source_of s.equations r) (get_or s.weights (b + 3) nan) in
    sum right (scaled (vector_at s.weights b) (other ⊖ own))

-- the terms of a list of records, one after the other
unfoldable pub add_terms : (ℕ → Vec3 → Vec3) → List ℕ → Vec3 → Vec3
add_terms step [] right = right
add_terms step (r ∷ rs) right = add_terms step rs (step r right)

-- the right side of the cell c
unfoldable pub right_side : Slices → ℕ → List Float → ℕ → Vec3
right_side s records field c = add_terms (add_term s field (get_or field c nan)) (trail s.equations records (get_or s.starts c 0)) zero3

-- the rows of the inverse times the right side
unfoldable pub product : List Float → ℕ → Vec3 → Vec3
product inverses c v = vec (dot (vector_at inverses (9 * c)) v) (dot (vector_at inverses (9 * c + 3)) v) (dot (vector_at inverses (9 * c + 6)) v)

unfoldable pub gradient_at : Slices → ℕ → List Float → ℕ → Vec3
gradient_at s records field c = product s.inverses c (right_side s records field c)

unfoldable pub gradients : Slices → ℕ → List Float → ℕ → List Float
gradients s records field cells = vectors_of (gradient_at s records field) cells

-- ---- the entry

-- the checks 1, 2, 3 and 5 of docs/REFUSALS.md; `stencil` and `number` are the mesh numbers of the stencil and of the field,
-- and `sized` says whether the output has its length
unfoldable pub lent_checks : Counts → ℕ → ℕ → Slices → ℕ → List Float → Bool → Answer
lent_checks n stencil records s number field sized =
    first_of
    (pass BadSize (sizes_ok n && leb records largest_count)
    ∷ pass WrongLength (stencil_sized n.cells records (lengths_of s) && eqb (length field) n.cells && sized)
    ∷ pass OtherMesh (eqb stencil n.mesh && eqb number n.mesh)
    ∷ at BrokenChain (lowest_broken (from_cell n.cells) s.equations Single s.starts)
    ∷ [])

-- for an output of so many numbers
abbrev pub gradient_checks : Counts → ℕ → ℕ → Slices → ℕ → List Float → ℕ → Answer
gradient_checks n stencil records s number field outs = lent_checks n stencil records s number field (eqb outs (3 * n.cells))

-- the answer, and what the output holds after the call: untouched where a check refuses
pub record GradientCall (n : Counts) (stencil records : ℕ) (s : Slices) (number : ℕ) (field old : List Float)
    (r : Answer) (new : List Float) : Type 0 where
  pub answer : r ≡ gradient_checks n stencil records s number field (length old)
  pub out : new ≡ if_refused r old (gradients s records field n.cells)

-- what the checks establish
pub record Sloped (s : Slices) (records : ℕ) (field : List Float) : Type 0 where
  pub starts : length s.starts ≡ length field
  pub equations : length s.equations ≡ 2 * records
  pub weights : length s.weights ≡ 4 * records
  pub inverses : length s.inverses ≡ 9 * length field
  pub chains : (c : ℕ) → c < length field → Chain s.equations records (from_cell (length field)) (get_or s.starts c 0)
