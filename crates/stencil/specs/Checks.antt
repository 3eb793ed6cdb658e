-- The checks of an entry that builds a stencil, in the order of docs/REFUSALS.md, and what it answers and leaves. Definitions only.
use Rattle.refusal.specs.declared.Reason.TheVariants.{BadSize, WrongLength, OtherMesh}
use Rattle.std.specs.Prelude.{◌≡◌, [], ◌∷◌, ◌&&◌, ℕ, eqb, leb}
use Rattle.mesh.specs.Answers.{pass, or_else, first_of, Answer}
use Rattle.mesh.specs.Checks.{largest_count, sizes_ok}
use Rattle.mesh.specs.Mesh.{Mesh, Conditions, mesh_sized, conditions_sized, whole_mesh}
use Rattle.mesh.specs.Pass.{if_refused}
use Rattle.numerics.specs.Slices.{Lengths, stencil_sized, Slices, lengths_of}
use Rattle.stencil.specs.Lent.{lent_of}
use Rattle.stencil.specs.Stencil.{stencil_answer, stencil_slices}

-- those of shape and of the mesh, for room for so many records, in slices of these lengths
unfoldable pub stencil_checks : Mesh → Conditions → ℕ → Lengths → Answer
stencil_checks m k records n =
    first_of
    (pass BadSize (sizes_ok m.counts && leb records largest_count)
    ∷ pass WrongLength (mesh_sized m && conditions_sized m.counts.faces k.codes k.values && stencil_sized m.counts.cells records n)
    ∷ pass OtherMesh (eqb k.number m.counts.mesh)
    ∷ whole_mesh m k.codes
    ∷ [])

-- the answer, and what the slices hold after the call: untouched where a check refuses, else as the stencil is handed out
pub record StencilCall (m : Mesh) (k : Conditions) (records : ℕ) (old : Slices) (r : Answer) (new : Slices) : Type 0 where
  pub answer : r ≡ or_else (stencil_checks m k records (lengths_of old)) (stencil_answer (lent_of m k) records)
  pub slices : new ≡ if_refused (stencil_checks m k records (lengths_of old)) old (stencil_slices (lent_of m k) records)
