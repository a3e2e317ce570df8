use mathlib.Core.Path.{sym, ap, ◌∙◌}
use mathlib.Core.List.{List}
use Prim.Native.Nat.{ℕ}
use native.Mathlib.Omega.{arith}
use Rattle.sets.specs.Members.{read}
use Rattle.sets.specs.Questions.{both_questions}
use Rattle.sets.proofs.OutcomeLaws.{given_yes}
use Rattle.sets.proofs.QuestionLaws.{first_no, first-yes, valid}
use Rattle.sets.proofs.RefusalLaws.{edit_refused, number_ne0}
use Rattle.two_sets.specs.Combined.{combined}
use Rattle.two_sets.proofs.MemberJoins.{joined_checked}
use Rattle.two_sets.proofs.in_place.keep_with.Goals as goal

pub returns-in_err-check : goal.returns-in_err-check
unfolding both_questions
returns-in_err-check c = edit_refused _ _ _ _ _ c.from_residual.ensures.1 (first_no _ c.in_err-check.ensures (number_ne0 _))

pub returns-in_err-second : goal.returns-in_err-second
unfolding both_questions
returns-in_err-second c =
    edit_refused _ _ _ _ _ c.from_residual-in_err-second.ensures.1 (first-yes (sym c.in_ok-check.ensures) c.in_err-second.ensures.number)

pub join_in_place-requires : goal.join_in_place-requires
join_in_place-requires c =
    let v = valid _ _ (sym c.in_ok-check.ensures) in
    (omega arith, omega arith, omega (arith, c.blocks_of-blocks.ensures, v.enough))

pub returns : goal.returns
unfolding combined read both_questions
returns c =
    let a = c.args in
    let v = valid _ _ (sym c.in_ok-check.ensures) in
    let second = c.in_ok-second in
    given_yes _ (first-yes (sym c.in_ok-check.ensures) second.ensures.number)
    (ap (λ (w : List ℕ). record { number = 0; set = a.a; words = w })
    (c.join_in_place.ensures
    ∙ rw (c.blocks_of-blocks.ensures) (joined_checked a.operation v second.second second.ensures.same a.a.length a.words.now v.enough)))
