use Rattle.std.proofs.Common.{sym, ◌∙◌, arith}
use Rattle.renumber_steps.proofs.AllMarked.{sided_length}
use Rattle.renumberings.proofs.ShareLaws.{filled, found_is, none_is, all_is}
use Rattle.renumberings.proofs.questions.shares.Goals as goal

pub returns-then-mark_olds : goal.returns-then-mark_olds
returns-then-mark_olds g c = found_is _ (filled _ (omega arith) (c.fill.ensures.after (λ y h. h))) c.if-mark_olds.ensures

pub returns-then-ones_of_words-pairs : goal.returns-then-ones_of_words-pairs
returns-then-ones_of_words-pairs g c =
    all_is _ (filled _ (omega arith) (c.fill.ensures.after (λ y h. h))) c.if-mark_olds.ensures c.ones_of_words.ensures
    (c.if-ones_of_words-pairs.true ∙ sym (sided_length g.S.Side.back c.args.pairs.now))

pub returns : goal.returns
returns g c = none_is _ (filled _ (omega arith) (c.fill.ensures.after (λ y h. h))) c.if-mark_olds.ensures c.repeats_above.ensures
