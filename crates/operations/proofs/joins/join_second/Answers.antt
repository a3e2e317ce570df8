use mathlib.Core.Path.{sym, ◌∙◌}
use Rattle.operations.proofs.BlockJoins.{second_comes, second_ends}
use Rattle.operations.proofs.joins.join_second.Goals as goal

pub returns-then-second_alone : goal.returns-then-second_alone
returns-then-second_alone g c =
    c.copy_blocks.ensures
    ∙ second_comes _ (sym c.second_alone.ensures ∙ c.if-second_alone.true) _ _ _ (record { fits = λ k. (c.type_inv.other k).fits })

pub returns-else-second_alone : goal.returns-else-second_alone
returns-else-second_alone g c =
    c.change_blocks.ensures
    ∙ rw c.min.ensures (second_ends g.S.Join.operation (sym c.second_alone.ensures ∙ c.if-second_alone.false) _ _ _ (record { fits = λ k. (c.type_inv.other k).fits }))
