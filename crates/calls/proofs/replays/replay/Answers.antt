use mathlib.Core.Path.{sym}
use Rattle.sets.specs.Questions.{both_questions}
use Rattle.sets.proofs.OutcomeLaws.{given_yes}
use Rattle.sets.proofs.QuestionLaws.{first_no, first-yes}
use Rattle.sets.proofs.RefusalLaws.{number_ne0}
use Rattle.calls.proofs.ReplayLaws.{replay_refused}
use Rattle.calls.proofs.replays.replay.Goals as goal

pub returns-in_err-check : goal.returns-in_err-check
unfolding both_questions
returns-in_err-check c = replay_refused _ _ _ _ _ _ _ c.from_residual.ensures.1 (first_no _ c.in_err-check.ensures (number_ne0 _))

pub returns-in_err-check-2 : goal.returns-in_err-check-2
unfolding both_questions
returns-in_err-check-2 c =
    replay_refused _ _ _ _ _ _ _ c.from_residual-in_err-check-2.ensures.1 (first-yes (sym c.in_ok-check.ensures) c.in_err-check-2.ensures)

pub replay_all-requires : goal.replay_all-requires
unfolding both_questions
replay_all-requires c = sym (first-yes (sym c.in_ok-check.ensures) c.in_ok-check-2.ensures)

pub returns : goal.returns
unfolding both_questions
returns c = given_yes _ (first-yes (sym c.in_ok-check.ensures) c.in_ok-check-2.ensures) c.replay_all.ensures
