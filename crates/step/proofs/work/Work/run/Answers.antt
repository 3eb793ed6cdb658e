use mathlib.Core.Path.{◌≡◌, sym, ◌∙◌}
use borrow.Author.Rules.{rules}
use Rattle.std.specs.Prelude.{Err}
use Rattle.mesh.proofs.Facts.{refuses, goes_on}
use Rattle.scheme.proofs.Parts.{work_is}
use Rattle.step.specs.Work.{inputs_in}
use Rattle.step.proofs.work.Work.run.Goals as goal

pub returns-in_err-build-clause-answer : goal.returns-in_err-build-clause-answer
returns-in_err-build-clause-answer c =
    let out : c.from_residual.result ≡ Err c.in_err-build.field-0.0 = search rules in
    let w = c.args.self.now in
    let work = work_is (inputs_in w) w.lendable in
    let stops = refuses _ _ _ (sym c.build.ensures.answer ∙ c.in_err-build.was) in
    out ∙ sym (work ∙ stops)

pub returns-in_err-predict-clause-answer : goal.returns-in_err-predict-clause-answer
returns-in_err-predict-clause-answer c =
    let out : c.from_residual-in_err-predict.result ≡ Err c.in_err-predict.field-0.0 = search rules in
    let w = c.args.self.now in
    let work = work_is (inputs_in w) w.lendable in
    let built = goes_on _ _ (sym c.build.ensures.answer ∙ c.in_ok-build.was) in
    let stops = refuses _ _ _ (sym c.predict.ensures.answer ∙ c.in_err-predict.was) in
    out ∙ sym (work ∙ built ∙ stops)

pub returns-in_err-complete-clause-answer : goal.returns-in_err-complete-clause-answer
returns-in_err-complete-clause-answer c =
    let out : c.from_residual-in_err-complete.result ≡ Err c.in_err-complete.field-0.0 = search rules in
    let w = c.args.self.now in
    let work = work_is (inputs_in w) w.lendable in
    let built = goes_on _ _ (sym c.build.ensures.answer ∙ c.in_ok-build.was) in
    let predicted = goes_on _ _ (sym c.predict.ensures.answer ∙ c.in_ok-predict.was) in
    let stops = refuses _ _ _ (sym c.complete.ensures.answer ∙ c.in_err-complete.was) in
    out ∙ sym (work ∙ built ∙ predicted ∙ stops)

pub returns-in_err-link-clause-answer : goal.returns-in_err-link-clause-answer
returns-in_err-link-clause-answer c =
    let out : c.from_residual-in_err-link.result ≡ Err c.in_err-link.field-0.0 = search rules in
    let w = c.args.self.now in
    let work = work_is (inputs_in w) w.lendable in
    let built = goes_on _ _ (sym c.build.ensures.answer ∙ c.in_ok-build.was) in
    let predicted = goes_on _ _ (sym c.predict.ensures.answer ∙ c.in_ok-predict.was) in
    let completed = goes_on _ _ (sym c.complete.ensures.answer ∙ c.in_ok-complete.was) in
    let stops = refuses _ _ _ (sym c.link.ensures.answer ∙ c.in_err-link.was) in
    out ∙ sym (work ∙ built ∙ predicted ∙ completed ∙ stops)

pub returns-in_err-correct-clause-answer : goal.returns-in_err-correct-clause-answer
returns-in_err-correct-clause-answer c =
    let out : c.from_residual-in_err-correct.result ≡ Err c.in_err-correct.field-0.0 = search rules in
    let w = c.args.self.now in
    let work = work_is (inputs_in w) w.lendable in
    let built = goes_on _ _ (sym c.build.ensures.answer ∙ c.in_ok-build.was) in
    let predicted = goes_on _ _ (sym c.predict.ensures.answer ∙ c.in_ok-predict.was) in
    let completed = goes_on _ _ (sym c.complete.ensures.answer ∙ c.in_ok-complete.was) in
    let linked = goes_on _ _ (sym c.link.ensures.answer ∙ c.in_ok-link.was) in
    let stops = refuses _ _ _ (sym c.correct.ensures.answer ∙ c.in_err-correct.was) in
    out ∙ sym (work ∙ built ∙ predicted ∙ completed ∙ linked ∙ stops)

pub returns-clause-answer : goal.returns-clause-answer
returns-clause-answer c =
    let w = c.args.self.now in
    let work = work_is (inputs_in w) w.lendable in
    let built = goes_on _ _ (sym c.build.ensures.answer ∙ c.in_ok-build.was) in
    let predicted = goes_on _ _ (sym c.predict.ensures.answer ∙ c.in_ok-predict.was) in
    let completed = goes_on _ _ (sym c.complete.ensures.answer ∙ c.in_ok-complete.was) in
    let linked = goes_on _ _ (sym c.link.ensures.answer ∙ c.in_ok-link.was) in
    let corrected = goes_on _ _ (sym c.correct.ensures.answer ∙ c.in_ok-correct.was) in
    c.measure.ensures.answer ∙ sym (work ∙ built ∙ predicted ∙ completed ∙ linked ∙ corrected)
