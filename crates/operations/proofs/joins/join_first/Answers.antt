use mathlib.Core.Path.{sym, ◌∙◌}
use Rattle.operations.proofs.BlockJoins.{first_stays, first_ends}
use Rattle.operations.proofs.joins.join_first.Goals as goal
use Rattle.operations.proofs.joins.join_first.Goals.{After-first_alone}

pub returns-then-not-first_alone : goal.returns-then-not-first_alone
returns-then-not-first_alone g c =
    let before = (goal.at.returns-then-not-first_alone g c).After-first_alone in
    c.change_blocks.ensures
    ∙ first_ends _ (sym c.first_alone.ensures ∙ c.if-not-first_alone.true) _ _ (record { fits = λ k. (before.type_inv.words k).fits })

pub returns-else-not-first_alone : goal.returns-else-not-first_alone
returns-else-not-first_alone g c =
    first_stays _ (sym c.first_alone.ensures ∙ c.if-not-first_alone.false) _ _ (record { fits = λ k. (c.type_inv.words k).fits })
