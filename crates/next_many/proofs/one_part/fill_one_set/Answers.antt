use mathlib.Core.Path.{sym, ap, ◌∙◌}
use lib.ListN.{length}
use Rattle.sets.specs.Members.{Members}
use Rattle.sets.proofs.OutcomeLaws.{given_yes}
use Rattle.sets.proofs.QuestionLaws.{first-yes}
use Rattle.walks.specs.Helpers.{chosen}
use Rattle.walks.proofs.WalkLaws.{first_number}
use Rattle.next_many.specs.Many.{front_steps}
use Rattle.next_many.specs.Rules.{written}
use Rattle.next_many.proofs.CallLaws.{part_room, many_refused}
use Rattle.next_many.proofs.one_part.fill_one_set.Goals as goal

pub returns-in_err-checked : goal.returns-in_err-checked
returns-in_err-checked g c = many_refused _ _ _ _ _ c.from_residual.ensures.1 (first_number _ _ c.in_err-checked.ensures.number)

pub returns-in_err-ask_part : goal.returns-in_err-ask_part
returns-in_err-ask_part g c =
    many_refused _ _ _ _ _ c.from_residual-in_err-ask_part.ensures.1 (first-yes (sym c.in_ok-checked.ensures.number) c.in_err-ask_part.ensures)

pub fill_part-requires : goal.fill_part-requires
fill_part-requires g c = part_room c.in_ok-checked.checked c.args.words.now c.args.set c.args.part c.in_ok-checked.ensures.same c.in_ok-ask_part.ensures

pub returns : goal.returns
returns g c =
    let a = c.args in
    given_yes _ (first-yes (sym c.in_ok-checked.ensures.number) c.in_ok-ask_part.ensures)
    (c.fill_part.ensures.steps
    ∙ ap (λ (x : Members). written a.out.now (front_steps (length a.out.now) (chosen g.S.Select.selection x x) a.part)) c.in_ok-checked.ensures.same)
