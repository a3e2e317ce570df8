use mathlib.Core.Path.{sym}
use native.Mathlib.Omega.{arith}
use Rattle.sets.proofs.QuestionLaws.{first-yes}
use Rattle.whole_walks.proofs.RuleLaws.{answers-yes, answers_no}
use Rattle.history.proofs.run.check_run.Goals as goal

pub returns-then-out-steps : goal.returns-then-out-steps
returns-then-out-steps c =
    first-yes (sym c.in_ok-check_new.ensures) (first-yes (sym c.in_ok-check_new-2.ensures) (sym (answers_no _ _ (omega arith))))

pub returns : goal.returns
returns c = first-yes (sym c.in_ok-check_new.ensures) (first-yes (sym c.in_ok-check_new-2.ensures) (sym (answers-yes _ _ (omega arith))))
