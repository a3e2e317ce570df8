use mathlib.Core.Path.{refl}
use Rattle.sets.proofs.OutcomeLaws.{given_yes}
use Rattle.sets.proofs.RefusalLaws.{answer_refused}
use Rattle.set_views.proofs.views.len.Goals as goal

pub returns-in_err-check : goal.returns-in_err-check
returns-in_err-check c = answer_refused _ _ _ _ _ c.from_residual.ensures.1 c.in_err-check.ensures

pub returns : goal.returns
returns c = given_yes _ c.in_ok-check.ensures refl
