use mathlib.Core.Path.{ap₂, ◌∙◌}
use Rattle.tests.proofs.AnswerLaws.{counted_yes}
use Rattle.sets.proofs.ReadLaws.{read_clipped}
use Rattle.sets.proofs.RefusalLaws.{answer_refused}
use Rattle.operations.specs.declared.operation.Operation.TheVariants.{Union}
use Rattle.two_set_counts.specs.Helpers.{joint_ones}
use Rattle.two_set_counts.proofs.ListLaws.{union_size}
use Rattle.two_set_counts.proofs.pair_counts.union_count.Goals as goal

pub returns-in_err-a : goal.returns-in_err-a
returns-in_err-a c = answer_refused _ _ _ _ _ c.from_residual.ensures.1 c.in_err-a.ensures.number

pub returns : goal.returns
returns c =
    let same = c.in_ok-a.ensures.same in
    counted_yes c.in_ok-a.ensures.number (c.joint_count.ensures ∙ ap₂ (joint_ones Union) same.0 same.1 ∙ union_size _ _ (read_clipped _ _) (read_clipped _ _))
