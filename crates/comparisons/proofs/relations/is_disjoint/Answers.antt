use mathlib.Core.Path.{ap₂, ◌∙◌}
use Rattle.tests.proofs.AnswerLaws.{told_yes}
use Rattle.sets.proofs.RefusalLaws.{answer_refused}
use Rattle.comparisons.specs.Relations.{disjoint}
use Rattle.comparisons.proofs.relations.is_disjoint.Goals as goal

pub returns-in_err-a : goal.returns-in_err-a
returns-in_err-a c = answer_refused _ _ _ _ _ c.from_residual.ensures.1 c.in_err-a.ensures.number

pub returns : goal.returns
returns c =
    let same = c.in_ok-a.ensures.same in
    told_yes c.in_ok-a.ensures.number (c.disjoint_by_words.ensures ∙ ap₂ disjoint same.0 same.1)
