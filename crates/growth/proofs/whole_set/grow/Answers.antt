use mathlib.Core.Path.{sym, ap, ap₂, ◌∙◌}
use mathlib.Core.List.{List}
use Prim.Native.Nat.{ℕ}
use lib.ListN.{length}
use Rattle.blocks.specs.Sweeps.{swept}
use Rattle.sets.specs.Members.{words_of, read, set_of, empty}
use Rattle.sets.specs.Questions.{new_questions}
use Rattle.sets.specs.declared.fixed_bit_set.FixedBitSet.{FixedBitSet}
use Rattle.sets.proofs.OutcomeLaws.{given_yes}
use Rattle.sets.proofs.QuestionLaws.{first_no, first-yes, valid, room}
use Rattle.sets.proofs.RefusalLaws.{edit_refused, number_ne0}
use Rattle.blocks.proofs.BlockLaws.{zeroed}
use Rattle.edits.specs.Edits.{grown}
use Rattle.growth.proofs.GrowthLaws.{grown-write}
use Rattle.growth.proofs.whole_set.grow.Goals as goal

pub returns-in_err-check : goal.returns-in_err-check
returns-in_err-check c = edit_refused _ _ _ _ _ c.from_residual.ensures.1 (first_no _ c.in_err-check.ensures (number_ne0 _))

pub returns-in_err-check_new : goal.returns-in_err-check_new
returns-in_err-check_new c =
    edit_refused _ _ _ _ _ c.from_residual-in_err-check_new.ensures.1
    (first-yes (sym c.in_ok-check.ensures)
    (c.in_err-check_new.ensures ∙ ap (λ (n : ℕ). new_questions n (length c.args.words.now)) c.max-length.ensures))

pub returns : goal.returns
unfolding grown read
returns c =
    let a = c.args in
    let ws = a.words.now in
    let sound = sym c.in_ok-check.ensures in
    let len = c.max-length.ensures in
    let asked = c.in_ok-check_new.ensures ∙ ap (λ (n : ℕ). new_questions n (length ws)) len in
    given_yes _ (first-yes sound asked)
    (ap₂ (λ (s : FixedBitSet) (w : List ℕ). record { number = 0; set = s; words = w })
    (c.new.ensures ∙ ap (λ (n : ℕ). set_of (empty n)) len)
    (c.change_blocks.ensures
    ∙ ap₂ (λ (m n : ℕ). swept m n zeroed ws) c.blocks_of.ensures (c.blocks_of-2.ensures ∙ ap words_of len)
    ∙ grown-write _ _ (valid _ _ sound) a.bits (room _ _ (sym asked)) (λ k. (c.slice_known-1.given k).fits)))
