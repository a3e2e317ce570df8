use Rattle.sets.proofs.RefusalLaws.{answer_refused}
use Rattle.tests.proofs.RangeTestLaws.{full_told, own_room}
use Rattle.tests.proofs.ranges.is_full.Goals as goal

pub returns-in_err-check : goal.returns-in_err-check
returns-in_err-check c = answer_refused _ _ _ _ _ c.from_residual.ensures.1 c.in_err-check.ensures

pub some_other-requires : goal.some_other-requires
some_other-requires c = own_room _ _ c.in_ok-check.ensures

pub returns : goal.returns
returns c = full_told _ _ c.in_ok-check.ensures c.some_other.ensures
