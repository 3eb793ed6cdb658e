use Rattle.std.proofs.Common.{ℕ, List, ◌∷◌, ◌++◌, take, map, Option, ap, ◌∙◌, rules, subst, arith, Ok}
use Rattle.std.proofs.Output.{has_written_append, has_written_of_eq}
use Rattle.std.specs.Fmt.{DisplaysOnOk}
use Rattle.pattern.specs.Text.{hex_text, words_text}
use Rattle.pattern.proofs.Printed.{hole_text, words_more}
use Rattle.pattern.proofs.word.WordsDisplay.fmt.Goals as goal

pub loop-x-init : goal.loop-x-init
unfolding words_text
loop-x-init g c = search rules

pub loop-x-preserved : goal.loop-x-preserved
loop-x-preserved g c =
    let word = c.word-word in
    let gives = λ (o : Option (List ℕ)). DisplaysOnOk g.W.Write.write_str_gives c.loop-x.f (Ok c.in_ok-write.field-0) o c.write.new.self in
    let text = hole_text c.in_radix.result c.laid_out.result word.result c.laid_out.ensures c.in_radix.ensures (omega arith) in
    let more =
    ap (λ n. words_text (map g.T.Word.to_word (take c.loop-x.x-index c.args.self.now.0.now)) ++ 32 ∷ hex_text n) word.ensures
    ∙ words_more g.T.Word.to_word _ _ _ c.loop-x-test.true c.x-item.is in
    λ p.
    let so_far = c.loop-x.invariant p in
    let written = subst gives text c.in_ok-write.ensures.writes so_far.plain (search rules) in
    has_written_of_eq _ _ _ _ _ more (has_written_append _ _ _ _ _ _ so_far written)
