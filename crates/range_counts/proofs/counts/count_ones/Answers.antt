use mathlib.Core.Path.{sym, ◌∙◌}
use Rattle.tests.proofs.AnswerLaws.{counted_yes}
use Rattle.sets.proofs.RefusalLaws.{answer_refused}
use Rattle.sets.proofs.RangeQuestionLaws.{held_range}
use Rattle.range_counts.proofs.CountLaws.{ones_is}
use Rattle.range_counts.proofs.counts.count_ones.Goals as goal

pub returns-in_err-check_range : goal.returns-in_err-check_range
returns-in_err-check_range c = answer_refused _ _ _ _ _ c.from_residual.ensures.1 c.in_err-check_range.ensures

pub ones_of-requires : goal.ones_of-requires
ones_of-requires c =
    let q = held_range _ _ _ _ (sym c.in_ok-check_range.ensures) in
    (q.held, q.small)

pub returns : goal.returns
returns c =
    let a = c.args in
    let accepted = c.in_ok-check_range.ensures in
    let q = held_range a.set a.words.now a.start a.end (sym accepted) in
    counted_yes accepted (c.ones_of.ensures ∙ ones_is a.set a.words.now a.start a.end q.range)
