use Rattle.std.proofs.Common.{◌≡◌, ℕ, ◌+◌, ◌*◌, ◌^◌, ap, ◌∙◌, arith}
use Rattle.binary64.proofs.root.Squares.{even_square, odd_square, power, turn, bounded, finish, halve_at}
use Rattle.binary64.proofs.root.by_digits.Goals as goal
use Rattle.binary64.proofs.root.by_digits.Goals.{then-t-r, else-t-r}

pub loop-i-preserved : goal.loop-i-preserved
loop-i-preserved c =
    let l = c.loop-i in
    let t = turn c.args.a (l.q * l.q + l.rest) l.n l._i l.invariant.digits l.invariant.left in
    let p = power 2 l._i in
    let b = bounded c.if-t-r.q (l._i + 1) in
    elim c.if-t-r.branch [
      | then-t-r w ↦ omega (arith, odd_square l.q, ap (λ (x : ℕ). x * x) w.q-is)
      | else-t-r w ↦ omega (arith, even_square l.q, ap (λ (x : ℕ). x * x) w.q-is)
    ]

pub returns : goal.returns
returns c =
    let l = c.loop-i in
    let i = l.invariant in
    let done : l._i ≡ 54 = omega arith in
    let all = i.digits ∙ ap (λ (j : ℕ). c.args.a * 2 ^ 10 * 4 ^ j) done in
    halve_at c.args.a l.q l.rest c.requires.above_zero (finish c.args.a (l.q * l.q + l.rest) l.n i.left all) i.remainder
