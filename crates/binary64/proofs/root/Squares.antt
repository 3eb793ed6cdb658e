-- Squares of whole numbers, and one turn of the root by digits. Assumes nothing.
use Rattle.std.proofs.Common.{◌≡◌, ℕ, zero, suc, ◌+◌, ◌-◌, ◌*◌, ◌/◌, ◌%◌, ◌^◌, ◌<◌, ◌≤◌, Bool, true, false, sym, refl, ap, ◌∙◌, subst, lt_of_lt_of_le, lt_of_le_of_lt, le_of_lt, mul_assoc, mul_comm, add-mul, mul-le-mul, mul-le-mul_left, mul-lt-mul_of_pos_right, pow-suc, mul-add, mul_right_comm, mul-div_cancel, add-one, arith, pow_pos, pow_mono, ltb, leb, ltb-true, ltb-false}
use native.Mathlib.Nat.{mul-mul-mul_comm}
use Rattle.std.specs.Int.{from_bool}
use Rattle.std.proofs.lemmas.Bool.{leb-true, leb-false}
use lib.Arith.{digits_div}
use Rattle.binary64.specs.Significand.{Near}

pub even_square : (q : ℕ) → q * 2 * (q * 2) ≡ q * q * 4
even_square q = mul-mul-mul_comm q 2 q 2

pub next_square : (x : ℕ) → (x + 1) * (x + 1) ≡ x * x + x * 2 + 1
next_square x =
    let p = add-mul x 1 (x + 1) in
    let r = mul-add x x 1 in
    omega arith

pub odd_square : (q : ℕ) → (q * 2 + 1) * (q * 2 + 1) ≡ q * q * 4 + q * 4 + 1
odd_square q = omega (arith, next_square (q * 2), even_square q)

pub square_lt : (x y : ℕ) → x < y → x * x < y * y
square_lt x y h = lt_of_le_of_lt (mul-le-mul_left x (le_of_lt h)) (mul-lt-mul_of_pos_right h (omega arith))

pub power : (n i : ℕ) → n ^ (i + 1) ≡ n ^ i * n
power n i = ap (λ (j : ℕ). n ^ j) (add-one i) ∙ pow-suc n i

-- what the digits passed and those to come make together is 4 times as much after a turn
shift : (s n p : ℕ) → s * 2 ^ 64 + n ≡ p → n < 2 ^ 64 → (s * 4 + n / 2 ^ 62) * 2 ^ 64 + (n * 2 ^ 2) % 2 ^ 64 ≡ p * 4
shift s n p e h = omega arith

pub turn : (a s n i : ℕ) → s * 2 ^ 64 + n ≡ a * 2 ^ 10 * 4 ^ i → n < 2 ^ 64 → (s * 4 + n / 2 ^ 62) * 2 ^ 64 + (n * 2 ^ 2) % 2 ^ 64 ≡ a * 2 ^ 10 * 4 ^ (i + 1)
turn a s n i e h = shift s n (a * 2 ^ 10 * 4 ^ i) e h ∙ mul_assoc (a * 2 ^ 10) (4 ^ i) 4 ∙ ap (λ (x : ℕ). a * 2 ^ 10 * x) (sym (power 4 i))

pub bounded : (q i : ℕ) → q < 2 ^ i → i ≤ 54 → q < 2 ^ 54
bounded q i h k = lt_of_lt_of_le h (pow_mono k)

-- from the root of a * 2 ^ 54 to the whole number nearest to half of it
pub halve : (a q : ℕ) → 0 < a → q * q ≤ a * 2 ^ 54 → a * 2 ^ 54 ≤ q * q + q * 2 → Near a ((q + 1) / 2)
halve a q some lo hi = go (q % 2) refl
  where
    at_even : (t : ℕ) → q ≡ t * 2 → Near a t
    at_even zero e =
        let s : q * q ≡ 0 = ap (λ (x : ℕ). x * x) e in
        record { above = omega arith; under = omega arith }
    at_even (suc t) e =
        let s : q * q ≡ suc t * suc t * 4 = ap (λ (x : ℕ). x * x) e ∙ even_square (suc t) in
        record { above = omega arith; under = omega arith }

    at_odd : (t : ℕ) → q ≡ t * 2 + 1 → Near a (t + 1)
    at_odd t e =
        let s : q * q ≡ t * t * 4 + t * 4 + 1 = ap (λ (x : ℕ). x * x) e ∙ odd_square t in
        let n = next_square t in
        record { above = omega arith; under = omega arith }

    evenly : q % 2 ≡ 0 → q ≡ (q + 1) / 2 * 2
    evenly e = omega arith

    oddly : (r : ℕ) → q % 2 ≡ suc r → q ≡ q / 2 * 2 + 1
    oddly r e = omega arith

    up : (r : ℕ) → q % 2 ≡ suc r → q / 2 + 1 ≡ (q + 1) / 2
    up r e = omega arith

    go : (r : ℕ) → q % 2 ≡ r → Near a ((q + 1) / 2)
    go zero e = at_even ((q + 1) / 2) (evenly e)
    go (suc r) e = subst (λ (h : ℕ). Near a h) (up r e) (at_odd (q / 2) (oddly r e))

pub halve_at : (a q r : ℕ) → 0 < a → q * q + r ≡ a * 2 ^ 54 → r ≤ q * 2 → Near a ((q + 1) / 2)
halve_at a q r some e h = halve a q some (omega arith) (omega arith)

-- after the last turn no digits are to come
pub finish : (a s n : ℕ) → n < 2 ^ 64 → s * 2 ^ 64 + n ≡ a * 2 ^ 10 * 4 ^ 54 → s ≡ a * 2 ^ 54
finish a s n h e =
    sym (digits_div s h)
    ∙ ap (λ (x : ℕ). x / 2 ^ 64) (e ∙ mul_assoc a (2 ^ 10) (4 ^ 54) ∙ sym (mul_assoc a (2 ^ 54) (2 ^ 64)))
    ∙ mul-div_cancel (a * 2 ^ 54) (pow_pos 64)

-- ---- the check of a guess h, in two parts of 30 and 23 digits

parts_square : (x y : ℕ) → (x * 2 ^ 23 + y) * (x * 2 ^ 23 + y) ≡ x * x * 2 ^ 46 + x * y * 2 ^ 24 + y * y
parts_square x y =
    let p = add-mul (x * 2 ^ 23) y (x * 2 ^ 23 + y) in
    let r = mul-add (x * 2 ^ 23) (x * 2 ^ 23) y in
    let s = mul-add y (x * 2 ^ 23) y in
    let t : x * 2 ^ 23 * (x * 2 ^ 23) ≡ x * x * 2 ^ 46 = mul-mul-mul_comm x (2 ^ 23) x (2 ^ 23) in
    let u : x * 2 ^ 23 * y ≡ x * y * 2 ^ 23 = mul_right_comm x (2 ^ 23) y in
    let v : y * (x * 2 ^ 23) ≡ x * y * 2 ^ 23 = mul_comm y (x * 2 ^ 23) ∙ u in
    omega arith

-- d is 190 * 2 ^ 46 more than a * 2 ^ 52 - h * h and y * y together
abbrev pub Apart : (a h y d : ℕ) → Type 0
Apart a h y d = a * 2 ^ 52 + 190 * 2 ^ 46 + y * y ≡ h * h + d

pub apart : (a h x y left rest : ℕ) → h ≡ x * 2 ^ 23 + y → left + x * x ≡ a * 64 + 190 → rest + x * y ≡ left * 2 ^ 22 → Apart a h y (rest * 2 ^ 24)
apart a h x y left rest e l r =
    let q : h * h ≡ x * x * 2 ^ 46 + x * y * 2 ^ 24 + y * y = ap (λ (z : ℕ). z * z) e ∙ parts_square x y in
    omega arith

-- h, or the number next to it that is nearest to the root
module _ (a h y d : ℕ) (lo : 2 ^ 52 ≤ h) (small : y * y ≤ (2 ^ 23 - 1) * (2 ^ 23 - 1)) (near : d ≤ 0x5f7f_ffff * 2 ^ 24) (e : Apart a h y d) where
  same : d ≤ y * y + 190 * 2 ^ 46 + h → y * y + 190 * 2 ^ 46 < d + h → Near a h
  same u w = record { above = omega arith; under = omega arith }

  next : y * y + 190 * 2 ^ 46 + h < d → Near a (h + 1)
  next u = let s = next_square h in record { above = omega arith; under = omega arith }

  previous : (g : ℕ) → h ≡ g + 1 → d + h ≤ y * y + 190 * 2 ^ 46 → Near a g
  previous g k u =
      let s : h * h ≡ g * g + g * 2 + 1 = ap (λ (z : ℕ). z * z) k ∙ next_square g in
      record { above = omega arith; under = omega arith }

  pub chosen : (i j : ℕ) → i ≡ from_bool (ltb (y * y + 190 * 2 ^ 46 + h) d) → j ≡ from_bool (leb (d + h) (y * y + 190 * 2 ^ 46)) → Near a (h + i - j)
  chosen i j e f = go _ _ refl refl e f
    where
      go : (u w : Bool) → ltb (y * y + 190 * 2 ^ 46 + h) d ≡ u → leb (d + h) (y * y + 190 * 2 ^ 46) ≡ w → i ≡ from_bool u → j ≡ from_bool w → Near a (h + i - j)
      go true true p q e f =
          let over = ltb-true _ _ p in
          let under = leb-true _ _ q in
          absurd (omega arith)
      go true false p q e f = subst (λ (z : ℕ). Near a z) (omega arith) (next (ltb-true _ _ p))
      go false true p q e f = previous (h + i - j) (omega arith) (leb-true _ _ q)
      go false false p q e f = subst (λ (z : ℕ). Near a z) (omega arith) (same (ltb-false _ _ p) (leb-false _ _ q))

-- what is left of a * 64 + 190 without the square of the guess's leading digits, and of that without their product with the others
pub checked : (a h left rest i j : ℕ) → a < 2 ^ 54 → 2 ^ 52 ≤ h → h < 2 ^ 53
    → left ≡ (a * 64 + 190 + (2 ^ 64 - h / 2 ^ 23 * (h / 2 ^ 23))) % 2 ^ 64 → left < 2 ^ 31
    → rest ≡ (left * 2 ^ 22 + (2 ^ 64 - h / 2 ^ 23 * (h % 2 ^ 23))) % 2 ^ 64 → rest < 0x5f80_0000
    → i ≡ from_bool (ltb (h % 2 ^ 23 * (h % 2 ^ 23) + 190 * 2 ^ 46 + h) (rest * 2 ^ 24))
    → j ≡ from_bool (leb (rest * 2 ^ 24 + h) (h % 2 ^ 23 * (h % 2 ^ 23) + 190 * 2 ^ 46))
    → Near a (h + i - j)
checked a h left rest i j small lo hi l ll r rl u w =
    let x = h / 2 ^ 23 in
    let y = h % 2 ^ 23 in
    let high : x ≤ 2 ^ 30 - 1 = omega arith in
    let low : y ≤ 2 ^ 23 - 1 = omega arith in
    let squared : x * x ≤ (2 ^ 30 - 1) * (2 ^ 30 - 1) = mul-le-mul high high in
    let crossed : x * y ≤ (2 ^ 30 - 1) * (2 ^ 23 - 1) = mul-le-mul high low in
    let lower : y * y ≤ (2 ^ 23 - 1) * (2 ^ 23 - 1) = mul-le-mul low low in
    let whole : left + x * x ≡ a * 64 + 190 = omega arith in
    let part : rest + x * y ≡ left * 2 ^ 22 = omega arith in
    chosen a h y (rest * 2 ^ 24) lo lower (omega arith) (apart a h x y left rest (omega arith) whole part) i j u w
