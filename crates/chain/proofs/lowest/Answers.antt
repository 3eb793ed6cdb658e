use Rattle.std.proofs.Common.{rules, arith, sym, true, false}
use Rattle.chain.proofs.Search.{none_found, found_at}
use Rattle.chain.proofs.lowest.Goals as goal

pub returns-then-test : goal.returns-then-test
returns-then-test g c = record {
  lowest = λ h r.
      sym
      (found_at h _ c.loop-i.i (omega arith) (sym (r _ true (omega arith) (search rules)))
      (λ j l. sym (r j false (omega (arith, l)) (c.loop-i.invariant j l))));
}

pub returns : goal.returns
returns g c = record {
  lowest = λ h r. sym (none_found h _ (λ j l. sym (r j false l (c.loop-i.invariant j (omega (arith, l))))));
}
