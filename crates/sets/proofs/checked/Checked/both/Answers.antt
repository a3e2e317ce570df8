use mathlib.Core.Path.{sym}
use Rattle.sets.proofs.RefusalLaws.{first_refused, number_refused}
use Rattle.sets.proofs.QuestionLaws.{first-yes}
use Rattle.sets.specs.Questions.{both_questions}
use Rattle.sets.proofs.checked.Checked.both.Goals as goal

pub returns-in_err-new-clause-number : goal.returns-in_err-new-clause-number
unfolding both_questions
returns-in_err-new-clause-number c = first_refused _ _ _ c.from_residual.ensures.1 c.in_err-new.ensures.number

pub returns-in_err-new-2-clause-number : goal.returns-in_err-new-2-clause-number
unfolding both_questions
returns-in_err-new-2-clause-number c =
    first-yes (sym c.in_ok-new.ensures.number) (number_refused _ _ c.from_residual-in_err-new-2.ensures.1 c.in_err-new-2.ensures.number)

pub returns-clause-number : goal.returns-clause-number
unfolding both_questions
returns-clause-number c = first-yes (sym c.in_ok-new.ensures.number) c.in_ok-new-2.ensures.number
