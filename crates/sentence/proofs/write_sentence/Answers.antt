use mathlib.Core.Path.{◌≡◌, refl, ap, ◌∙◌}
use mathlib.Core.List.{[], ◌∷◌, ◌++◌}
use native.Mathlib.Omega.{arith}
use lib.ListN.{length, drop}
use Rattle.sentence.specs.Sentence.{opened}
use Rattle.sentence.proofs.Place.{in_place, needed, fits_in, no_room}
use Rattle.sentence.proofs.write_sentence.Goals as goal

pub returns-then-needed-out : goal.returns-then-needed-out
returns-then-needed-out c =
    let digits = c.decimal-digits.result.now in
    let n = needed c.args.opening.now digits in
    let put = in_place c.args.opening.now digits c.args.out.now _ refl (omega arith) in
    let text : c.args.opening.now ++ (digits ++ (46 ∷ [])) ≡ opened c.args.opening.now c.args.index = rw c.decimal-digits.ensures.text refl in
    record {
      length = n ∙ ap length text;
      leaves = fits_in _ _ _ (omega (arith, n, ap length text))
          (rw (c.put.ensures.text, c.put-then-needed-out.ensures.text) (put ∙ ap (λ t. t ++ drop (length t) c.args.out.now) text));
    }

pub returns-else-needed-out : goal.returns-else-needed-out
returns-else-needed-out c =
    let digits = c.decimal-digits.result.now in
    let n = needed c.args.opening.now digits in
    let text : c.args.opening.now ++ (digits ++ (46 ∷ [])) ≡ opened c.args.opening.now c.args.index = rw c.decimal-digits.ensures.text refl in
    record { length = n ∙ ap length text; leaves = no_room _ _ (omega (arith, n, ap length text)) }
