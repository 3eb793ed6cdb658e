use Rattle.step.proofs.work.Work.complete.Goals as goal

pub returns : goal.returns
returns c =
    let passes = rw (c.bounds.ensures, c.coupling.ensures.grid, c.coupling.ensures.responses) at c.complete.ensures.passes in
    record { answer = passes.0; contents = λ ok. passes.1 ok }
