-- A length is a value of the format. Assumes nothing.
use lib.Dec.{T}
use lib.Ieee.{binary64, fits}
use lib.Ieee.Fits.{add-fits}
use Rattle.binary64.proofs.Kept.{root_fits}
use Rattle.vector.specs.Vector.{dot, norm}
use Rattle.vector.specs.declared.Vec3.{Vec3}

pub norm_fits : (a : Vec3) → T (fits binary64 (norm a))
unfolding dot
norm_fits a = root_fits binary64 (dot a a) (add-fits binary64 _ _)
