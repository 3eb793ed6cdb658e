use mathlib.Core.Path.{◌≡◌}
use Prim.Native.Nat.{◌^◌, ◌<◌}
use lib.ListN.{take}
use Rattle.io.specs.Digits.{last_digits}
use Rattle.pattern.proofs.inner.hex.Given as goal

-- The digits read so far are n's.
abbrev pub invariant-loop-b : goal.invariant-loop-b
invariant-loop-b l = record {
  bounded : l.n < 16 ^ l.b-index;
  spelled : last_digits 16 l.b-index l.n ≡ take l.b-index l.text;
}
