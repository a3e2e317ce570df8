-- What is moved from the index on, into the words as they are, is what the whole list moves.
use Rattle.std.proofs.Common.{◌≡◌}
use Rattle.sets.specs.CheckedSets.{members}
use Rattle.renumber_steps.proofs.PassLaws.{moved_from}
use Rattle.renumberings.proofs.passes.move_members.Given as goal

abbrev pub invariant-loop-pair : goal.invariant-loop-pair
invariant-loop-pair g l =
    moved_from g.S.Side.back l.pairs 0 (members l.set) l.initial.out ≡ moved_from g.S.Side.back l.pairs l.pair-index (members l.set) l.out
