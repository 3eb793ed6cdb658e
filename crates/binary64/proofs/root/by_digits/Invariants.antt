use Rattle.std.proofs.Common.{◌≡◌, ◌+◌, ◌*◌, ◌^◌, ◌<◌, ◌≤◌}
use Rattle.binary64.proofs.root.by_digits.Given as goal

abbrev pub invariant-loop-i : goal.invariant-loop-i
invariant-loop-i l = record {
  digits : (l.q * l.q + l.rest) * 2 ^ 64 + l.n ≡ l.a * 2 ^ 10 * 4 ^ l._i;
  left : l.n < 2 ^ 64;
  remainder : l.rest ≤ l.q * 2;
  root : l.q < 2 ^ l._i;
  most : l.q < 2 ^ 54;
}
