use mathlib.Core.Path.{ap₂, ◌∙◌}
use Rattle.tests.proofs.AnswerLaws.{told_yes}
use Rattle.sets.proofs.RefusalLaws.{answer_refused}
use Rattle.comparisons.specs.Relations.{subset}
use Rattle.comparisons.proofs.RelationLaws.{subset_is}
use Rattle.comparisons.proofs.relations.is_superset.Goals as goal

pub returns-in_err-a : goal.returns-in_err-a
returns-in_err-a c = answer_refused _ _ _ _ _ c.from_residual.ensures.1 c.in_err-a.ensures.number

pub returns : goal.returns
returns c =
    let same = c.in_ok-a.ensures.same in
    told_yes c.in_ok-a.ensures.number (c.subset_by_words.ensures ∙ subset_is c.in_ok-a.b c.in_ok-a.a ∙ ap₂ subset same.1 same.0)
