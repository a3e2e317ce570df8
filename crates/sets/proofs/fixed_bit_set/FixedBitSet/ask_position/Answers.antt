use mathlib.Core.Path.{sym}
use Rattle.sets.proofs.QuestionLaws.{position_yes, position_no}
use Rattle.sets.proofs.fixed_bit_set.FixedBitSet.ask_position.Goals as goal

pub returns-then-self-bit : goal.returns-then-self-bit
returns-then-self-bit c = sym (position_no _ _ c.if-self-bit.true)

pub returns : goal.returns
returns c = sym (position_yes _ _ c.if-self-bit.false)
