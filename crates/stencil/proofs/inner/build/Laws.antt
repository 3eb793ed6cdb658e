-- What is known of a mesh that is built on.
use mathlib.Core.Path.{◌≡◌}
use Prim.Native.Nat.{ℕ, ◌-◌, ◌<◌, ◌≤◌}
use native.Mathlib.Omega.{arith}
use Rattle.mesh.specs.Records.{peer_at}
use Rattle.mesh.proofs.Facts.{peer_below}
use Rattle.stencil.specs.Lent.{Lent, Buildable, web_of}
use Rattle.stencil.specs.Ring.{Web}

-- one less than a number that is not 0 and at most n
pub below-pred : {a n : ℕ} → a ≤ n → (a ≡ 0 → ⊥) → a - 1 < n
below-pred {a} {n} h z = omega arith

-- what the neighbours' search asks for, and where a link goes
pub web_known : (l : Lent) → Buildable l → Web (web_of l.mesh)
web_known l g = record { heads_size = g.sized.heads; bordering_size = g.sized.bordering; ended = g.sound.borderings }

pub peer_face : (l : Lent) → Buildable l → (f : ℕ) → f < l.mesh.counts.faces → peer_at l.bounds.codes f ≤ l.mesh.counts.faces
peer_face l g f h = peer_below l.mesh.adjacency l.bounds.codes l.mesh.counts.faces f g.codes (g.sound.links f h)
