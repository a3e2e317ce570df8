use mathlib.Core.Path.{ap₂, ◌∙◌}
use borrow.Author.Tests.{ne_eqb}
use Rattle.tests.proofs.AnswerLaws.{told_yes}
use Rattle.sets.proofs.RefusalLaws.{answer_refused}
use Rattle.comparisons.specs.Orders.{equal}
use Rattle.comparisons.proofs.EqualLaws.{equal_no, equal_is}
use Rattle.comparisons.proofs.orders.eq.Goals as goal

pub returns-in_err-a : goal.returns-in_err-a
returns-in_err-a c = answer_refused _ _ _ _ _ c.from_residual.ensures.1 c.in_err-a.ensures.number

pub returns-then-a-b : goal.returns-then-a-b
returns-then-a-b c =
    let both = c.in_ok-a.ensures.same in
    told_yes c.in_ok-a.ensures.number
    (equal_is c.in_ok-a.a c.in_ok-a.b c.if-a-b.true _ c.same.ensures
    ∙ ap₂ equal both.0 both.1)

pub returns-else-a-b : goal.returns-else-a-b
returns-else-a-b c =
    let both = c.in_ok-a.ensures.same in
    told_yes c.in_ok-a.ensures.number
    (ne_eqb _ _ c.if-a-b.false ∙ equal_no c.in_ok-a.a c.in_ok-a.b c.if-a-b.false ∙ ap₂ equal both.0 both.1)
