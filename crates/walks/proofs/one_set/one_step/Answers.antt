use mathlib.Core.Path.{sym, ap, ◌∙◌}
use Rattle.sets.specs.Members.{Members}
use Rattle.sets.proofs.OutcomeLaws.{given_yes}
use Rattle.sets.proofs.QuestionLaws.{first-yes}
use Rattle.sets.proofs.RefusalLaws.{answer_refused}
use Rattle.parts.specs.Steps.{step}
use Rattle.walks.specs.Helpers.{chosen}
use Rattle.walks.specs.Rules.{taken}
use Rattle.walks.proofs.WalkLaws.{first_number}
use Rattle.walks.proofs.one_set.one_step.Goals as goal

pub returns-in_err-checked : goal.returns-in_err-checked
returns-in_err-checked g c = answer_refused _ _ _ _ _ c.from_residual.ensures.1 (first_number _ _ c.in_err-checked.ensures.number)

pub returns-in_err-ask_part : goal.returns-in_err-ask_part
returns-in_err-ask_part g c =
    answer_refused _ _ _ _ _ c.from_residual-in_err-ask_part.ensures.1 (first-yes (sym c.in_ok-checked.ensures.number) c.in_err-ask_part.ensures)

pub returns : goal.returns
returns g c =
    let a = c.args in
    given_yes _ (first-yes (sym c.in_ok-checked.ensures.number) c.in_ok-ask_part.ensures)
    (ap taken (c.step_row.ensures ∙ ap (λ (x : Members). step a.end (chosen g.S.Select.selection x x) a.part) c.in_ok-checked.ensures.same))
