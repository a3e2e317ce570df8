-- Before step k the loop has stored the answers of the steps before it.
use Rattle.parts.specs.Selections.{Difference}
use Rattle.sets.specs.CheckedSets.{members}
use Rattle.walks.specs.Helpers.{chosen}
use Rattle.whole_walks.proofs.AnswerLaws.{Answered}
use Rattle.whole_walks.proofs.whole.take_steps.Given as goal

abbrev pub invariant-loop-k : goal.invariant-loop-k
invariant-loop-k g l = Answered (chosen g.S.Select.selection (members l.a) (members l.b)) (chosen Difference (members l.b) (members l.a)) l.steps l.initial.records.one l.initial.records.two l.initial.out l.records.one l.records.two l.k l.out
