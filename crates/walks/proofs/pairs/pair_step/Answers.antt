use mathlib.Core.Path.{sym, ap, ap₂, ◌∙◌}
use Rattle.sets.specs.Members.{Members}
use Rattle.sets.proofs.OutcomeLaws.{given_yes}
use Rattle.sets.proofs.QuestionLaws.{first-yes}
use Rattle.sets.proofs.RefusalLaws.{answer_refused}
use Rattle.parts.specs.Steps.{step}
use Rattle.walks.specs.Helpers.{chosen}
use Rattle.walks.specs.Rules.{taken}
use Rattle.walks.proofs.WalkLaws.{first_number}
use Rattle.walks.proofs.pairs.pair_step.Goals as goal

pub returns-in_err-both : goal.returns-in_err-both
returns-in_err-both g c = answer_refused _ _ _ _ _ c.from_residual.ensures.1 (first_number _ _ c.in_err-both.ensures.number)

pub returns-in_err-ask_part : goal.returns-in_err-ask_part
returns-in_err-ask_part g c =
    answer_refused _ _ _ _ _ c.from_residual-in_err-ask_part.ensures.1 (first-yes (sym c.in_ok-both.ensures.number) c.in_err-ask_part.ensures)

pub returns : goal.returns
returns g c =
    let a = c.args in
    let same = c.in_ok-both.ensures.same in
    given_yes _ (first-yes (sym c.in_ok-both.ensures.number) c.in_ok-ask_part.ensures)
    (ap taken (c.step_row.ensures ∙ ap₂ (λ (x y : Members). step a.end (chosen g.S.Select.selection x y) a.part) same.0 same.1))
