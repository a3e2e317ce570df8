use mathlib.Core.Path.{sym}
use Rattle.sets.proofs.RangeQuestionLaws.{part_yes, part_inverted, part_outside}
use Rattle.sets.proofs.fixed_bit_set.FixedBitSet.ask_part.Goals as goal
use Rattle.sets.proofs.fixed_bit_set.FixedBitSet.ask_part.Goals.{then-part-via-then-part, then-part-via-else-part+then-self-part}

pub returns-then-part : goal.returns-then-part
returns-then-part c = elim c.then-part.branch [
  | then-part-via-then-part w ↦ sym (part_inverted _ _ w.if-part.true)
  | then-part-via-else-part+then-self-part w ↦ sym (part_outside _ _ w.if-self-part.true)
]

pub returns : goal.returns
returns c = sym (part_yes _ _ c.if-part.false c.if-self-part.false)
