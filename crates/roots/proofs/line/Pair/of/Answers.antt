use Rattle.roots.proofs.Lines.{line_first, line_second}
use Rattle.roots.proofs.line.Pair.of.Goals as goal

pub returns-in_err-hex : goal.returns-in_err-hex
returns-in_err-hex c = rw c.from_residual.ensures (λ x root e. c.in_err-hex.ensures x (line_first x root e))

pub returns-in_err-hex-2 : goal.returns-in_err-hex-2
returns-in_err-hex-2 c =
    rw c.from_residual-in_err-hex-2.ensures (λ x root e. c.in_err-hex-2.ensures root (line_second x root e))
