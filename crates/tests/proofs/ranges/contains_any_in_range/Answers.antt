use mathlib.Core.Path.{sym}
use Rattle.sets.proofs.RefusalLaws.{answer_refused}
use Rattle.sets.proofs.RangeQuestionLaws.{held_range}
use Rattle.tests.proofs.RangeTestLaws.{any_told}
use Rattle.tests.proofs.ranges.contains_any_in_range.Goals as goal

pub returns-in_err-check_range : goal.returns-in_err-check_range
returns-in_err-check_range c = answer_refused _ _ _ _ _ c.from_residual.ensures.1 c.in_err-check_range.ensures

pub some_other-requires : goal.some_other-requires
some_other-requires c = (held_range _ _ _ _ (sym c.in_ok-check_range.ensures)).held

pub returns : goal.returns
returns c = any_told _ _ _ _ c.in_ok-check_range.ensures c.some_other.ensures
