use mathlib.Core.Path.{sym, ap₂, ◌∙◌}
use mathlib.Core.List.{List}
use Prim.Native.Nat.{ℕ, ◌≤◌, max}
use native.Mathlib.Omega.{arith}
use lib.ListN.{length}
use Rattle.sets.specs.Members.{words_of}
use Rattle.sets.specs.declared.fixed_bit_set.FixedBitSet.{FixedBitSet}
use Rattle.sets.proofs.OutcomeLaws.{given_yes}
use Rattle.sets.proofs.QuestionLaws.{first_no, first-yes, valid, room, room_only}
use Rattle.sets.proofs.RefusalLaws.{edit_refused, number_ne0}
use Rattle.two_sets.specs.Combined.{combined}
use Rattle.two_sets.proofs.MemberJoins.{joined-both, same_length, third_rule}
use Rattle.two_sets.proofs.SetJoins.{joined_into}
use Rattle.two_sets.proofs.third_buffer.join_third.Goals as goal
use Rattle.two_sets.proofs.third_buffer.join_third.Goals.{In_ok-one}

-- the result is as long as one of the checked sets at the most
fits : (c : In_ok-one) → c.args.bits ≤ max c.in_ok-one.one.length c.in_ok-one.two.length
fits c =
    let both = c.in_ok-one in
    let one = same_length both.one _ _ both.ensures.same.0 in
    let two = same_length both.two _ _ both.ensures.same.1 in
    omega (arith, c.requires)

pub returns-in_err-one : goal.returns-in_err-one
returns-in_err-one c = edit_refused _ _ _ _ _ c.from_residual.ensures.1 (first_no _ c.in_err-one.ensures.number (number_ne0 _))

pub returns-in_err-check_new : goal.returns-in_err-check_new
returns-in_err-check_new c =
    let both = c.in_ok-one in
    let v = valid _ _ both.one.sound.asked in
    let w = valid _ _ both.two.sound.asked in
    let bits = fits (goal.at.returns-in_err-check_new c).In_ok-one in
    edit_refused _ _ _ _ _ c.from_residual-in_err-check_new.ensures.1 (first-yes (sym both.ensures.number) (c.in_err-check_new.ensures ∙ room_only _ _ (omega (arith, v.small, w.small, bits))))

pub join_in_place-requires : goal.join_in_place-requires
unfolding words_of
join_in_place-requires c =
    let both = c.in_ok-one in
    let bits = fits (goal.at.join_in_place-requires c).In_ok-one in
    let total = c.blocks_of-total.ensures in
    let copied = c.min-copied.ensures in
    let one = both.one.sound.own in
    let two = both.two.sound.own in
    (omega arith, omega arith, omega (arith, (room _ _ (sym c.in_ok-check_new.ensures)).enough))

pub returns : goal.returns
unfolding combined
returns c =
    let a = c.args in
    let both = c.in_ok-one in
    let v = valid _ _ both.one.sound.asked in
    let w = valid _ _ both.two.sound.asked in
    let n : ℕ = a.bits in
    let bits = fits (goal.at.returns c).In_ok-one in
    let enough = (room _ _ (sym c.in_ok-check_new.ensures)).enough in
    let all : length both.one.words.now ≤ length both.one.words.now = omega arith in
    third_rule a.operation a.a a.words.now a.b a.other.now both.one both.two both.ensures.number both.ensures.same n a.out.now
    (given_yes _ (c.in_ok-check_new.ensures ∙ room_only _ _ (omega (arith, v.small, w.small, bits)))
    (ap₂ (λ (s : FixedBitSet) (ws : List ℕ). record { number = 0; set = s; words = ws }) c.new.ensures
    (c.join_in_place.ensures
    ∙ rw (c.copy_blocks.ensures, c.min-copied.ensures, c.blocks_of-total.ensures)
    (joined_into a.operation (length both.one.words.now) (length both.two.words.now) (words_of n) both.one.words.now both.two.words.now a.out.now enough all
    ∙ joined-both a.operation both.one both.two n a.out.now enough))))
