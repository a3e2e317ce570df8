-- The marks from the index on, over the words as they are, are those of the whole list.
use Rattle.std.proofs.Common.{◌≡◌}
use Rattle.renumber_steps.proofs.PassLaws.{marks_from}
use Rattle.renumberings.proofs.passes.mark_olds.Given as goal

abbrev pub invariant-loop-pair : goal.invariant-loop-pair
invariant-loop-pair g l = marks_from g.S.Side.back l.pairs 0 l.initial.marks ≡ marks_from g.S.Side.back l.pairs l.pair-index l.marks
