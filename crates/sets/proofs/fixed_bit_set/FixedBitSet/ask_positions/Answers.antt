use mathlib.Core.Path.{sym, ◌∙◌}
use Rattle.sets.proofs.ListQuestionLaws.{none_out, some_out}
use Rattle.sets.proofs.fixed_bit_set.FixedBitSet.ask_positions.Goals as goal

pub returns-then-count_out-ne0 : goal.returns-then-count_out-ne0
returns-then-count_out-ne0 c = some_out _ _ (λ e. c.if-count_out-ne0.true (c.count_out.ensures ∙ e))

pub returns : goal.returns
returns c = none_out _ _ (sym c.count_out.ensures ∙ c.if-count_out-ne0.false)
