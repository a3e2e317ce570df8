use mathlib.Core.Path.{sym, ◌∙◌}
use Rattle.sets.proofs.OutcomeLaws.{given_yes}
use Rattle.sets.proofs.QuestionLaws.{first-both, valid}
use Rattle.sets.proofs.RangeQuestionLaws.{within}
use Rattle.sets.proofs.ReadLaws.{changed-outcome}
use Rattle.sets.proofs.RefusalLaws.{edit_refused}
use Rattle.range_edits.proofs.RangeChanges.{range_write}
use Rattle.range_edits.proofs.ranges.change_range.Goals as goal

pub returns-in_err-check_range : goal.returns-in_err-check_range
returns-in_err-check_range c = edit_refused _ _ _ _ _ c.from_residual.ensures.1 c.in_err-check_range.ensures

pub returns : goal.returns
returns c =
    let a = c.args in
    let ws = a.words.now in
    let accepted = c.in_ok-check_range.ensures in
    let both = first-both _ _ (sym accepted) in
    given_yes _ accepted
    (changed-outcome _ ws _ _
    (c.change_covered.ensures
    ∙ range_write a.set ws (valid _ _ both.0) (λ k. (c.slice_known-1.given k).fits) a.start a.end (within _ _ _ both.1) a.change))
