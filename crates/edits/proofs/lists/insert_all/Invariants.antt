-- The positions up to the index are marked.
use Rattle.edits.proofs.ListChanges.{Marking}
use Rattle.edits.proofs.lists.insert_all.Given as goal

abbrev pub invariant-loop-position : goal.invariant-loop-position
invariant-loop-position l = Marking l.set l.positions l.initial.words l.position-index l.words
