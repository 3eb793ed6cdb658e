use Rattle.std.proofs.Common.{arith, ◌<◌, length}
use Rattle.chain.specs.Sound.{Sound, items_from}
use Rattle.chain.proofs.Onward.{turn, over}
use Rattle.chain.proofs.records.RecordsIterator.next.Goals as goal

pub returns-then-self-eq0-clause-steps : goal.returns-then-self-eq0-clause-steps
returns-then-self-eq0-clause-steps c = let e = over c.args.self.now.records.now _ c.if-self-eq0.true in (e, e)

pub second_of-self-requires : goal.second_of-self-requires
second_of-self-requires c = (turn c.requires c.if-self-eq0.false).present

pub first_of-requires : goal.first_of-requires
first_of-requires c = (turn c.requires c.if-self-eq0.false).present

pub returns-clause-steps : goal.returns-clause-steps
returns-clause-steps c = rw (c.first_of.ensures, c.second_of-self.ensures) (turn c.requires c.if-self-eq0.false).cons

pub returns-clause-goes : goal.returns-clause-goes
returns-clause-goes c =
    let l = c.args.self.now.records.now in
    let t = turn c.requires c.if-self-eq0.false in
    let can : Sound l c.second_of-self.result = rw c.second_of-self.ensures t.rest in
    let less : length (items_from l c.second_of-self.result) < length (items_from l c.args.self.now.next) =
    rw (c.second_of-self.ensures, t.cons) (omega arith) in
    record { on = λ _. (can, tt, less); keeps = can; rests = λ _. tt }
