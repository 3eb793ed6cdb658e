use Rattle.std.proofs.Common.{◌≡◌, ℕ, ◌-◌, ◌*◌, ◌%◌, ◌^◌, ◌<◌, ◌≤◌, T, true, sym, refl, ap, ◌∙◌, subst, lt_of_lt_of_le, mod-eq_of_lt, arith, lit≤}
use lib.Count.{count_leading_zeros}
use lib.Ieee.{Float, nan, binary64, fits, of_bits, to_bits}
use lib.Ieee.Bits.{of_bits-to_bits, to_bits-lt}
use Rattle.binary64.specs.Root.{root, nearest_root}
use Rattle.binary64.proofs.Bits.{only_nan}
use Rattle.binary64.proofs.root.Patterns.{of_nan, of_zero, of_ends, negative, normal, subnormal, shift_of}
use Rattle.binary64.proofs.sqrt.Goals as goal

nan_is : of_bits binary64 0x7ff8_0000_0000_0000 ≡ nan
unfolding of_bits
nan_is = refl

held : (x : Float) → fits binary64 x ≡ true → T (fits binary64 x)
held x e = subst T (sym e) tt

back : (x : Float) → fits binary64 x ≡ true → of_bits binary64 (to_bits binary64 x) ≡ x
back x e = of_bits-to_bits binary64 x (held x e)

-- a subnormal value's digits, shifted to 53
record Shifted (b z : ℕ) : Type 0 where
  fewest : 12 ≤ z
  most : z ≤ 63
  whole : b * 2 ^ (z - 11) % 2 ^ 64 ≡ b * 2 ^ (z - 11)
  low : 2 ^ 52 ≤ b * 2 ^ (z - 11) % 2 ^ 64
  high : b * 2 ^ (z - 11) % 2 ^ 64 < 2 ^ 53

shifted : (b z : ℕ) → z ≡ count_leading_zeros 64 b → 0 < b → b < 2 ^ 52 → Shifted b z
shifted b z e some below =
    let s = shift_of b some below in
    let whole = mod-eq_of_lt (lt_of_lt_of_le s.3 (lit≤ tt)) in
    subst (λ (k : ℕ). Shifted b k) (sym e) record {
      fewest = s.0;
      most = s.1;
      whole = whole;
      low = subst (λ (a : ℕ). 2 ^ 52 ≤ a) (sym whole) s.2;
      high = subst (λ (a : ℕ). a < 2 ^ 53) (sym whole) s.3;
    }

pub returns-then-is_nan : goal.returns-then-is_nan
returns-then-is_nan c = of_nan c.args.x (only_nan c.args.x (sym c.if-is_nan.ensures.value))

pub returns-then-b-le9223372036854775808 : goal.returns-then-b-le9223372036854775808
returns-then-b-le9223372036854775808 c =
    let low = c.if-b-ge9218868437227405312.true in
    let high = c.if-b-le9223372036854775808.true in
    of_ends c.args.x _ (back c.args.x c.well_formed.0.1) c.if-is_nan.ensures.not_nan low high

pub returns-then-b-ge9218868437227405312 : goal.returns-then-b-ge9218868437227405312
returns-then-b-ge9218868437227405312 c =
    let x = c.args.x in
    let below = c.if-b-le9223372036854775808.false in
    nan_is ∙ sym (negative _ below (to_bits-lt binary64 x (held x c.well_formed.0.1))) ∙ ap root (back x c.well_formed.0.1)

pub returns-then-b-ge4503599627370496 : goal.returns-then-b-ge4503599627370496
returns-then-b-ge4503599627370496 c =
    let low = c.if-b-ge4503599627370496.true in
    let high = c.if-b-ge9218868437227405312.false in
    c.normal.ensures ∙ sym (normal _ low high) ∙ ap root (back c.args.x c.well_formed.0.1)

pub returns-then-b-eq0 : goal.returns-then-b-eq0
returns-then-b-eq0 c = of_zero c.args.x _ (back c.args.x c.well_formed.0.1) c.if-b-eq0.true

pub overflow_sub-z : goal.overflow_sub-z
overflow_sub-z c =
    let s = shifted _ _ c.from-z.ensures (omega arith) c.if-b-ge4503599627370496.false in
    omega arith

pub invariant_of-scaled : goal.invariant_of-scaled
invariant_of-scaled c =
    let s = shifted _ _ c.from-z.ensures (omega arith) c.if-b-ge4503599627370496.false in
    record { least = s.low; most = s.high }

pub returns : goal.returns
returns c =
    let b = to_bits binary64 c.args.x in
    let z = c.from-z.result in
    let some : 0 < b = omega arith in
    let below = c.if-b-ge4503599627370496.false in
    let s = shifted b z c.from-z.ensures some below in
    c.scaled.ensures
    ∙ ap (λ (a : ℕ). nearest_root binary64 (a * 2 ^ (1074 - (z - 11)))) s.whole
    ∙ sym (subnormal b (z - 11) some below (omega arith))
    ∙ ap root (back c.args.x c.well_formed.0.1)
