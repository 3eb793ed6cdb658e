use mathlib.Core.Path.{refl, sym, ◌∙◌, subst}
use native.Mathlib.Omega.{arith}
use native.Mathlib.Nat.{le_refl, le_trans, le_of_lt, lt_of_le_of_lt}
use Rattle.chain.proofs.Chains.{trail_over}
use Rattle.numerics.specs.Bundles.{slices_of}
use Rattle.numerics.specs.Gradient.{add_terms, right_side}
use Rattle.numerics.proofs.inner.gradient.Slope.right_side.Goals as goal
use Rattle.numerics.proofs.inner.gradient.Slope.right_side.Goals.{In-loop-r, Else-r-here}
use Rattle.numerics.proofs.inner.gradient.Slope.right_side.Invariants.{Left, Stepped, stepped}

pub loop-r-init : goal.loop-r-init
unfolding right_side
loop-r-init c = record { chain = c.args.self.now.sloped.chains c.args.c c.requires.c_in_bounds; sum = refl }

-- the record that a run begins with
first : (c : In-loop-r)
    → Stepped (slices_of c.args.self.now.stencil) c.args.self.now.stencil.records c.args.self.now.field.now c.args.c c.loop-r.right c.loop-r.r
first c = stepped _ _ _ _ c.loop-r.right c.loop-r.r c.loop-r.invariant c.loop-r-test.true

pub overflow_add-next : goal.overflow_add-next
overflow_add-next c =
    let o = (first ((goal.at.overflow_add-next c).In-loop-r)).onward in
    omega (arith, o.present, c.args.self.now.sloped.equations)

pub add_term-right-requires : goal.add_term-right-requires
add_term-right-requires c =
    let o = (first ((goal.at.add_term-right-requires c).In-loop-r)).onward in
    record { r_nonzero = (omega (arith, c.loop-r-test.true), omega (arith, o.present, c.args.self.now.sloped.equations), o.below) }

pub second_of-r-requires : goal.second_of-r-requires
second_of-r-requires c =
    let o = (first ((goal.at.second_of-r-requires c).In-loop-r)).onward in
    omega (arith, o.present, c.args.self.now.sloped.equations, c.loop-r-test.true)

pub loop-here-init : goal.loop-here-init
loop-here-init c =
    (rw (c.second_of-r.ensures, c.add_term-right.ensures.sums) (first ((goal.at.loop-here-init c).In-loop-r)).left, le_refl _)

pub loop-r-smaller-in-loop-here : goal.loop-r-smaller-in-loop-here
loop-r-smaller-in-loop-here c =
    lt_of_le_of_lt c.loop-here.invariant.1 (rw c.second_of-r.ensures (first ((goal.at.loop-r-smaller-in-loop-here c).In-loop-r)).shorter)

pub loop-r-smaller : goal.loop-r-smaller
loop-r-smaller c =
    lt_of_le_of_lt c.loop-here.invariant.1 (rw c.second_of-r.ensures (first ((goal.at.loop-r-smaller c).In-loop-r)).shorter)

-- the record that follows in a run
next : (c : Else-r-here)
    → Stepped (slices_of c.args.self.now.stencil) c.args.self.now.stencil.records c.args.self.now.field.now c.args.c c.loop-here.right c.loop-here.here
next c =
    let s = c.args.self.now.stencil in
    let at = Left (slices_of s) s.records c.args.self.now.field.now c.args.c c.loop-here.right in
    let left = subst at c.if-r-here.false c.loop-here.invariant.0 in
    stepped _ _ _ _ c.loop-here.right c.loop-here.here left (λ z. omega (arith, z, c.loop-here.auto.here))

pub add_term-right-requires-in-loop-here : goal.add_term-right-requires-in-loop-here
add_term-right-requires-in-loop-here c =
    let o = (next ((goal.at.add_term-right-requires-in-loop-here c).Else-r-here)).onward in
    record { r_nonzero = (omega (arith, c.loop-here.auto.here), omega (arith, o.present, c.args.self.now.sloped.equations), o.below) }

pub second_of-r-requires-in-loop-here : goal.second_of-r-requires-in-loop-here
second_of-r-requires-in-loop-here c =
    let o = (next ((goal.at.second_of-r-requires-in-loop-here c).Else-r-here)).onward in
    omega (arith, o.present, c.args.self.now.sloped.equations, c.loop-here.auto.here)

pub loop-here-preserved : goal.loop-here-preserved
loop-here-preserved c =
    let t = next ((goal.at.loop-here-preserved c).Else-r-here) in (
      rw (c.second_of-r-in-loop-here.ensures, c.add_term-right-in-loop-here.ensures.sums) t.left,
      rw c.second_of-r-in-loop-here.ensures (le_trans (le_of_lt (rw c.if-r-here.false t.shorter)) c.loop-here.invariant.1),
    )

pub returns : goal.returns
unfolding add_terms
returns c =
    let s = c.args.self.now.stencil in
    record {
      sums = sym (rw (trail_over s.equations.now s.records c.loop-r.r c.loop-r-test.false)) ∙ c.loop-r.invariant.sum;
    }
