use mathlib.Core.Path.{sym, ap, ◌∙◌}
use Rattle.sets.specs.Outcomes.{Outcome}
use Rattle.sets.proofs.QuestionLaws.{first_no, first-yes}
use Rattle.sets.proofs.RefusalLaws.{number_ne0, edit_refused}
use Rattle.renumber_steps.specs.Rules.{pairs_questions}
use Rattle.renumberings.proofs.NumberLaws.{made, accepted}
use Rattle.renumberings.proofs.moves.renumber_sided.Goals as goal

pub returns-in_err-checked : goal.returns-in_err-checked
returns-in_err-checked g c =
    edit_refused _ _ _ _ _ c.from_residual.ensures.1 (first_no _ (first_no _ c.in_err-checked.ensures.number (number_ne0 _)) (number_ne0 _))

pub returns-in_err-check_new : goal.returns-in_err-check_new
returns-in_err-check_new g c =
    edit_refused _ _ _ _ _ c.from_residual-in_err-check_new.ensures.1
    (first_no _ (first-yes (sym c.in_ok-checked.ensures.number) c.in_err-check_new.ensures) (number_ne0 _))

pub returns-in_err-ask_pairs : goal.returns-in_err-ask_pairs
returns-in_err-ask_pairs g c =
    edit_refused _ _ _ _ _ c.from_residual-in_err-ask_pairs.ensures.1
    (first-yes (sym (first-yes (sym c.in_ok-checked.ensures.number) c.in_ok-check_new.ensures))
    (c.in_err-ask_pairs.ensures ∙ ap (pairs_questions _ _) c.in_ok-checked.ensures.same))

pub returns-in_err-renumbered : goal.returns-in_err-renumbered
returns-in_err-renumbered g c =
    absurd (number_ne0 _ (ap (λ (o : Outcome). o.number) (c.in_err-renumbered.ensures ∙ made _ c.in_ok-check_new.ensures)))

pub returns : goal.returns
returns g c =
    let checked = c.in_ok-checked.ensures in
    accepted _ _ _ _ _ _ _ _ checked.number checked.same c.in_ok-check_new.ensures c.in_ok-ask_pairs.ensures c.in_ok-renumbered.ensures c.move_members.ensures
