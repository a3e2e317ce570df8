use mathlib.Core.Path.{sym}
use Rattle.sets.proofs.RangeQuestionLaws.{range_inverted, range_outside, range_yes}
use Rattle.sets.proofs.fixed_bit_set.FixedBitSet.ask_range.Goals as goal
use Rattle.sets.proofs.fixed_bit_set.FixedBitSet.ask_range.Goals.{then-end-start-via-then-end-start, then-end-start-via-else-end-start+then-self-end}

pub returns-then-end-start : goal.returns-then-end-start
returns-then-end-start c = elim c.then-end-start.branch [
  | then-end-start-via-then-end-start w ↦ sym (range_inverted _ _ _ w.if-end-start.true)
  | then-end-start-via-else-end-start+then-self-end w ↦ sym (range_outside _ _ _ w.if-self-end.true)
]

pub returns : goal.returns
returns c = sym (range_yes _ _ _ c.if-end-start.false c.if-self-end.false)
