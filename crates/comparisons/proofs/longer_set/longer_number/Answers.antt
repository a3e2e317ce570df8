use mathlib.Core.Path.{sym}
use Rattle.sets.specs.Questions.{both_questions}
use Rattle.sets.proofs.QuestionLaws.{first-yes}
use Rattle.sets.proofs.RefusalLaws.{first_refused}
use Rattle.comparisons.proofs.longer_set.longer_number.Goals as goal

pub returns-in_err-check : goal.returns-in_err-check
unfolding both_questions
returns-in_err-check c = first_refused _ _ _ c.from_residual.ensures.1 c.in_err-check.ensures

pub returns : goal.returns
unfolding both_questions
returns c = first-yes (sym c.in_ok-check.ensures) c.check-2.ensures
