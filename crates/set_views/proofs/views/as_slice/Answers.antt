use mathlib.Core.Path.{sym, ap, ◌∙◌}
use lib.Seq.{length-take-le}
use Rattle.sets.specs.Refusals.{number_of}
use Rattle.sets.specs.Rules.{first_words}
use Rattle.sets.proofs.OutcomeLaws.{given_no, given_yes}
use Rattle.sets.proofs.QuestionLaws.{valid}
use Rattle.sets.proofs.RefusalLaws.{number_ne0}
use Rattle.set_views.proofs.views.as_slice.Goals as goal

pub returns-in-Err : goal.returns-in-Err
returns-in-Err c =
    given_no (λ m. first_words c.args.words 0) _ c.check.ensures (λ z. number_ne0 c.in-Err.field-0 (ap number_of (sym c.in-Err.is) ∙ z))

pub slice_bounds-result-end : goal.slice_bounds-result-end
slice_bounds-result-end c =
    let a = c.args in
    let v = valid a.set a.words.now (sym c.in-Ok.ensures) in
    sym (length-take-le _ _ (rw c.blocks_of.ensures v.enough))

pub returns-in-Ok : goal.returns-in-Ok
returns-in-Ok c = given_yes _ c.in-Ok.ensures (ap (first_words c.args.words) c.blocks_of.ensures)
