use mathlib.Core.Path.{sym, ap, ap₂, ◌∙◌}
use Rattle.sets.specs.Members.{Members}
use Rattle.sets.proofs.OutcomeLaws.{given_yes}
use Rattle.sets.proofs.QuestionLaws.{first-yes}
use Rattle.sets.proofs.RefusalLaws.{answer_refused}
use Rattle.walks.specs.Helpers.{chosen, row_step, placed}
use Rattle.walks.specs.Rules.{taken_pair, without}
use Rattle.walks.proofs.PairLaws.{placed_is}
use Rattle.parts.specs.Selections.{Difference}
use Rattle.walks.proofs.WalkLaws.{first_number, own_rows}
use Rattle.two_part_walks.proofs.two_parts.two_part_step.Goals as goal

pub returns-in_err-both : goal.returns-in_err-both
returns-in_err-both g c = answer_refused _ _ _ _ _ c.from_residual.ensures.1 (first_number _ _ c.in_err-both.ensures.number)

pub returns-in_err-ask_part : goal.returns-in_err-ask_part
returns-in_err-ask_part g c =
    answer_refused _ _ _ _ _ c.from_residual-in_err-ask_part.ensures.1 (first-yes (sym c.in_ok-both.ensures.number) (first_number _ _ c.in_err-ask_part.ensures))

pub returns-in_err-ask_part-2 : goal.returns-in_err-ask_part-2
returns-in_err-ask_part-2 g c =
    answer_refused _ _ _ _ _ c.from_residual-in_err-ask_part-2.ensures.1
    (first-yes (sym c.in_ok-both.ensures.number) (first-yes (sym c.in_ok-ask_part.ensures) c.in_err-ask_part-2.ensures))

pub returns : goal.returns
returns g c =
    let a = c.args in
    let same = c.in_ok-both.ensures.same in
    given_yes _ (first-yes (sym c.in_ok-both.ensures.number) (first-yes (sym c.in_ok-ask_part.ensures) c.in_ok-ask_part-2.ensures))
    (ap taken_pair
    (c.place.ensures ∙ ap (placed a.one a.two)
    (own_rows g.S.Select.selection Difference c.in_ok-both.both.0 c.in_ok-both.both.1 a.end a.one a.two c.step_rows-step.ensures ∙ ap₂ (λ (x y : Members). row_step a.end (chosen g.S.Select.selection x y) (without y x) a.one a.two) same.0 same.1)
    ∙ placed_is _ _ a.one a.two a.end))
