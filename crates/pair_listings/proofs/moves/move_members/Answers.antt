use mathlib.Core.Path.{sym, ap, ◌∙◌}
use Rattle.sets.specs.Questions.{questions}
use Rattle.sets.specs.declared.fixed_bit_set.FixedBitSet.{FixedBitSet}
use Rattle.sets.proofs.QuestionLaws.{first_no}
use Rattle.sets.proofs.RefusalLaws.{edit_refused, number_ne0}
use Rattle.listing_lines.specs.Offsets.{offsets_of}
use Rattle.pair_listings.specs.Tables.{entry_of, moved_below, moved_by}
use Rattle.pair_listings.proofs.SetLaws.{made_no, made_yes}
use Rattle.pair_listings.proofs.MoveLaws.{moved_rule}
use Rattle.pair_listings.proofs.moves.move_members.Goals as goal

pub returns-in_err-check : goal.returns-in_err-check
returns-in_err-check c =
    edit_refused _ _ _ _ _ c.from_residual.ensures.1
    (first_no _ (c.in_err-check.ensures ∙ ap (λ (set : FixedBitSet). questions set c.args.words.now) c.new.ensures) (number_ne0 _))

pub returns-in_err-made : goal.returns-in_err-made
returns-in_err-made c =
    let a = c.args in
    moved_rule (entry_of a.to.now) a.words.now a.out.now (sym (c.in_ok-check.ensures ∙ ap (λ (set : FixedBitSet). questions set a.words.now) c.new.ensures))
    (made_no a.out.now _ _ c.from_residual-in_err-made.ensures.1 c.in_err-made.ensures (moved_by (entry_of a.to.now) (offsets_of a.words.now)))

pub returns : goal.returns
unfolding moved_below
returns c =
    let a = c.args in
    moved_rule (entry_of a.to.now) a.words.now a.out.now (sym (c.in_ok-check.ensures ∙ ap (λ (set : FixedBitSet). questions set a.words.now) c.new.ensures))
    (made_yes a.out.now c.in_ok-made.ensures (moved_by (entry_of a.to.now) (offsets_of a.words.now)).has (λ room e. c.move_each.ensures a.out.now room e))
