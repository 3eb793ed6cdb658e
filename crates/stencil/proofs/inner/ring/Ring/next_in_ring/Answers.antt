use Rattle.std.proofs.Common.{◌≡◌}
use Rattle.stencil.specs.Bundles.{ways_of}
use Rattle.stencil.proofs.inner.ring.Laws.{found, found_first, found_none, found_onward}
use Rattle.stencil.proofs.inner.ring.Ring.next_in_ring.Goals as goal
use Rattle.stencil.proofs.inner.ring.Ring.next_in_ring.Goals.{In-None}

is_found : (c : In-None) → c.loop-n.lowest ≡ found (ways_of c.args.self.now) c.args.self.now.c c.args.from
is_found c = rw c.in-None.ensures.steps.0 at c.loop-n.invariant.3

pub returns-then-lowest-self-clause-first : goal.returns-then-lowest-self-clause-first
returns-then-lowest-self-clause-first c =
    found_first _ _ _ _ (is_found ((goal.at.returns-then-lowest-self-clause-first c).In-None)) c.if-lowest-self.true

pub returns-then-lowest-self-clause-onward : goal.returns-then-lowest-self-clause-onward
returns-then-lowest-self-clause-onward c =
    let found = is_found ((goal.at.returns-then-lowest-self-clause-onward c).In-None) in
    found_onward (ways_of c.args.self.now) c.args.self.now.c c.args.from _ found c.if-lowest-self.true

pub returns-else-lowest-self-clause-first : goal.returns-else-lowest-self-clause-first
returns-else-lowest-self-clause-first c h =
    found_none _ _ _ _ (is_found ((goal.at.returns-else-lowest-self-clause-first c).In-None)) c.if-lowest-self.false
