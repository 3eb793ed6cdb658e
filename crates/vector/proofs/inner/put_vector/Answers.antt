use native.Mathlib.Omega.{arith}
use lib.ListN.{length-set}
use Rattle.vector.proofs.inner.put_vector.Goals as goal

pub bounds-out-b-2 : goal.bounds-out-b-2
bounds-out-b-2 c = simp length-set (omega arith)
