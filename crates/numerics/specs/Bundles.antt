-- What is lent together, as the lists that its slices hold. Definitions only.
use Rattle.numerics.specs.Slices.{Slices, slices}
use Rattle.numerics.specs.declared.lent.Stencil.{Stencil}

abbrev pub slices_of : Stencil → Slices
slices_of s = slices s.starts.now s.equations.now s.weights.now s.inverses.now
