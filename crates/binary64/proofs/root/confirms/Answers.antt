use Rattle.std.proofs.Common.{◌≡◌, ℕ, ◌+◌, ◌-◌, ◌*◌, ◌/◌, ◌%◌, ◌^◌, ◌<◌, ◌≤◌, ◌&&◌, Bool, true, T, refl, true≢false, false, sym, ap, ◌∙◌, subst, arith}
use borrow.Author.Tests.{eqb-true, ltb-true}
use lib.Ieee.{binary64, of_bits}
use Rattle.binary64.proofs.root.Patterns.{normal}
use Rattle.binary64.proofs.root.Placed.{placed, root_bits, start_of}
use Rattle.binary64.proofs.root.confirms.Goals as goal

both : (a b : Bool) → (a && b) ≡ true → (a ≡ true) × (b ≡ true)
both true b h = (refl, h)
both false b h = absurd (true≢false (sym h))

-- the tests of the two exponents, and the numbers between 1 and 4
module _ (b k : ℕ) (bl : b < 2 ^ 64) (low : (b + 18442240474082181120) % 2 ^ 64 < 0x7fe0_0000_0000_0000)
    (same : k / 2 ^ 52 ≡ (b + 2 ^ 52) % 2 ^ 64 / 2 ^ 53 + 511) where
  least : 2 ^ 52 ≤ b
  least = omega (arith, bl, low)

  most : b < 0x7ff0_0000_0000_0000
  most = omega (arith, bl, low)

  unwrapped : (b + 2 ^ 52) % 2 ^ 64 ≡ b + 2 ^ 52
  unwrapped = omega (arith, bl, low)

  above : 2 ^ 52 ≤ k
  above = omega (arith, same)

  back : (b + 2 ^ 52) / 2 ^ 53 * 2 ^ 52 + (k % 2 ^ 52 + 0x3ff0_0000_0000_0000) - 0x2000_0000_0000_0000 ≡ k
  back = omega (arith, same, unwrapped)

-- the first digits of k
leading : (k : ℕ) → (k % 2 ^ 52 + 0x3ff0_0000_0000_0000) / 2 ^ 38 ≡ (k % 2 ^ 52 / 2 ^ 27 * 2 ^ 27 + 0x3ff0_0000_0000_0000) / 2 ^ 38
leading k = omega arith

pub returns : goal.returns
returns c = λ h.
    let b = c.args.b in
    let k = c.args.k in
    let two = both _ _ h in
    let one = both _ _ two.0 in
    let bl : b < 2 ^ 64 = c.ranges.b.fits in
    let low = ltb-true _ _ one.0 in
    let same = eqb-true _ _ one.1 in
    let lo = least b k bl low same in
    let hi = most b k bl low same in
    let t : (b + 2 ^ 52) % 2 ^ 64 ≡ b + 2 ^ 52 = unwrapped b k bl low same in
    let y = (b + 2 ^ 52) % 2 ^ 53 + 0x3ff0_0000_0000_0000 in
    let tested = subst T (sym two.1 ∙ rw t at c.settles.ensures) tt in
    let p = placed b (k % 2 ^ 52 + 0x3ff0_0000_0000_0000) lo hi (root_bits y _ (k % 2 ^ 52 + 0x3ff0_0000_0000_0000) (omega arith) (omega arith) (start_of k) (leading k) tested) in
    record { normal = lo; above = above b k bl low same; root = ap (of_bits binary64) (sym (back b k bl low same)) ∙ p.root ∙ sym (normal b lo hi) }
