use mathlib.Core.Path.{◌≡◌, sym, ◌∙◌}
use Prim.Native.Nat.{ℕ, ◌≤◌, ◌<◌, ◌+◌}
use native.Mathlib.Omega.{arith}
use lib.ListN.{length, get_or}
use lib.Ieee.{nan, Float}
use mathlib.Core.List.{List}
use Rattle.chain.specs.Chains.{next_of, trail, Chain}
use Rattle.vector.specs.declared.Vec3.{Vec3}
use Rattle.chain.proofs.Chains.{Onward, onward, trail_on}
use Rattle.numerics.specs.Slices.{Slices}
use Rattle.numerics.specs.Bundles.{slices_of}
use Rattle.numerics.specs.Gradient.{add_term, add_terms, right_side}
use Rattle.numerics.proofs.inner.gradient.Slope.right_side.Given as goal

module _ (s : Slices) (records : ℕ) (field : List Float) (c : ℕ) where
  -- the terms of the records from r on, added to `right`, are the right side
  pub record Left (right : Vec3) (r : ℕ) : Type 0 where
    pub chain : Chain s.equations records (length field + 2) r
    pub sum : add_terms (add_term s field (get_or field c nan)) (trail s.equations records r) right ≡ right_side s records field c

  -- a record and the rest of its chain
  pub record Stepped (right : Vec3) (r : ℕ) : Type 0 where
    pub onward : Onward s.equations records (length field + 2) r
    pub left : Left (add_term s field (get_or field c nan) r right) (next_of s.equations r)
    pub shorter : length (trail s.equations records (next_of s.equations r)) < length (trail s.equations records r)

  pub stepped : (right : Vec3) (r : ℕ) → Left right r → (r ≡ 0 → ⊥) → Stepped right r
  unfolding add_terms
  stepped right r l z =
      let o = onward s.equations records (length field + 2) r l.chain z in
      let t = trail_on s.equations records (length field + 2) r l.chain z in
      record {
        onward = o;
        left = record { chain = o.rest; sum = sym (rw t) ∙ l.sum };
        shorter = rw t (omega arith);
      }

abbrev pub invariant-loop-here : goal.invariant-loop-here
invariant-loop-here l =
    Left (slices_of l.self.stencil) l.self.stencil.records l.self.field.now l.c l.right l.r
    × (length (trail l.self.stencil.equations.now l.self.stencil.records l.r) ≤ length (trail l.self.stencil.equations.now l.self.stencil.records l.initial.r))

abbrev pub invariant-loop-r : goal.invariant-loop-r
invariant-loop-r l = Left (slices_of l.self.stencil) l.self.stencil.records l.self.field.now l.c l.right l.r

abbrev pub decreases-loop-r : goal.decreases-loop-r
decreases-loop-r l = length (trail l.self.stencil.equations.now l.self.stencil.records l.r)
