use mathlib.Core.Path.{sym}
use Rattle.sets.specs.Questions.{both_questions}
use Rattle.sets.proofs.QuestionLaws.{first-yes}
use Rattle.sets.proofs.RefusalLaws.{first_refused, number_refused}
use Rattle.listing_pieces.proofs.set_pairs.SetPair.new.Goals as goal

pub returns-in_err-check-clause-number : goal.returns-in_err-check-clause-number
unfolding both_questions
returns-in_err-check-clause-number c = first_refused _ _ _ c.from_residual.ensures.1 c.in_err-check.ensures

pub returns-in_err-check-2-clause-number : goal.returns-in_err-check-2-clause-number
unfolding both_questions
returns-in_err-check-2-clause-number c =
    number_refused _ _ c.from_residual-in_err-check-2.ensures.1 (first-yes (sym c.in_ok-check.ensures) c.in_err-check-2.ensures)

pub invariant_of-result : goal.invariant_of-result
unfolding both_questions
invariant_of-result c = record { sound = sym (first-yes (sym c.in_ok-check.ensures) c.in_ok-check-2.ensures) }
