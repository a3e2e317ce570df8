use Rattle.parts.specs.Selections.{Difference}
use Rattle.walks.proofs.WalkLaws.{own_rows}
use Rattle.whole_walks.proofs.AnswerLaws.{answered_all, answered_more}
use Rattle.whole_walks.proofs.whole.take_steps.Goals as goal

pub loop-k-preserved : goal.loop-k-preserved
loop-k-preserved g c =
    answered_more _ _ _ _ _ _ c.loop-k.invariant c.end_of-end.ensures (own_rows g.S.Select.selection Difference c.args.a c.args.b _ _ _ c.step_rows-step.ensures)
    c.after-records.ensures c.answer_word.ensures c.loop-k-test.true c.requires

pub returns : goal.returns
returns g c = answered_all _ _ _ _ _ _ c.loop-k.invariant c.loop-k-test.false
