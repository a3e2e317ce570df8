-- No old offset before the index stands twice from 65,536 up.
use Rattle.std.proofs.Common.{◌≡◌}
use Rattle.renumber_steps.proofs.PassLaws.{repeated_from}
use Rattle.renumberings.proofs.finds.repeats_above.Given as goal

abbrev pub invariant-loop-k : goal.invariant-loop-k
invariant-loop-k g l = repeated_from g.S.Side.back l.pairs 0 ≡ repeated_from g.S.Side.back l.pairs l.k
