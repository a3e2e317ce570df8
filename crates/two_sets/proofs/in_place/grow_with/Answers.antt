use mathlib.Core.Path.{sym, ap, ap₂, ◌∙◌}
use mathlib.Core.List.{List}
use Prim.Native.Nat.{ℕ, max}
use native.Mathlib.Omega.{arith}
use lib.ListN.{length}
use Rattle.sets.specs.Members.{words_of, read, set_of, empty}
use Rattle.sets.specs.Questions.{both_questions, new_questions}
use Rattle.sets.specs.declared.fixed_bit_set.FixedBitSet.{FixedBitSet}
use Rattle.sets.proofs.OutcomeLaws.{given_yes}
use Rattle.sets.proofs.QuestionLaws.{first_no, first-yes, valid, room, room_only}
use Rattle.sets.proofs.RefusalLaws.{edit_refused, number_ne0}
use Rattle.two_sets.specs.Combined.{combined}
use Rattle.two_sets.proofs.MemberJoins.{joined_checked, same_length}
use Rattle.two_sets.proofs.in_place.grow_with.Goals as goal

pub returns-in_err-check : goal.returns-in_err-check
unfolding both_questions
returns-in_err-check c =
    let e = c.in_err-check.ensures in
    edit_refused _ _ _ _ _ c.from_residual.ensures.1 (first_no _ (first_no _ e (number_ne0 _)) (number_ne0 _))

pub returns-in_err-second : goal.returns-in_err-second
unfolding both_questions
returns-in_err-second c =
    edit_refused _ _ _ _ _ c.from_residual-in_err-second.ensures.1
    (first_no _ (first-yes (sym c.in_ok-check.ensures) c.in_err-second.ensures.number) (number_ne0 _))

pub returns-in_err-check_new : goal.returns-in_err-check_new
unfolding both_questions
returns-in_err-check_new c =
    let a = c.args in
    let v = valid _ _ (sym c.in_ok-check.ensures) in
    let w = valid _ _ (sym c.in_ok-second.ensures.number) in
    edit_refused _ _ _ _ _ c.from_residual-in_err-check_new.ensures.1
    (first-yes (sym (first-yes (sym c.in_ok-check.ensures) c.in_ok-second.ensures.number))
    (c.in_err-check_new.ensures ∙ ap (λ (n : ℕ). new_questions n (length a.words.now)) c.max-length.ensures
    ∙ room_only _ _ (omega (arith, v.small, w.small))))

pub join_in_place-requires : goal.join_in_place-requires
unfolding words_of
join_in_place-requires c =
    let len = c.max-length.ensures in
    let own = c.in_ok-second.second.sound.own in
    let same = same_length c.in_ok-second.second _ _ c.in_ok-second.ensures.same in
    let blocks = c.blocks_of.ensures in
    let total = c.blocks_of-2.ensures in
    (omega arith, omega arith, omega (arith, (room _ _ (sym c.in_ok-check_new.ensures)).enough))

pub returns : goal.returns
unfolding combined read both_questions
returns c =
    let a = c.args in
    let v = valid _ _ (sym c.in_ok-check.ensures) in
    let second = c.in_ok-second in
    let w = valid _ _ (sym second.ensures.number) in
    let len = c.max-length.ensures in
    let asked = c.in_ok-check_new.ensures ∙ ap (λ (n : ℕ). new_questions n (length a.words.now)) len in
    given_yes _
    (first-yes (sym (first-yes (sym c.in_ok-check.ensures) second.ensures.number)) (asked ∙ room_only _ _ (omega (arith, v.small, w.small))))
    (ap₂ (λ (s : FixedBitSet) (ws : List ℕ). record { number = 0; set = s; words = ws })
    (c.new-2.ensures ∙ ap (λ (n : ℕ). set_of (empty n)) len)
    (c.join_in_place.ensures
    ∙ rw (c.blocks_of.ensures, c.blocks_of-2.ensures, len)
    (joined_checked a.operation v second.second second.ensures.same (max a.a.length a.b.length) a.words.now (room _ _ (sym asked)).enough)))
