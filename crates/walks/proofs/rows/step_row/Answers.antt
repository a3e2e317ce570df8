use mathlib.Core.Path.{ap, ◌∙◌}
use mathlib.Core.Bool.{Bool}
use Prim.Native.Nat.{ℕ}
use Rattle.parts.specs.Steps.{step}
use Rattle.walks.proofs.WalkLaws.{own_chosen}
use Rattle.walks.proofs.rows.step_row.Goals as goal

pub returns : goal.returns
returns g c =
    let a = c.args in
    c.step_selected.ensures ∙ ap (λ (has : ℕ → Bool). step a.end has a.part) (own_chosen g.S.Select.selection a.a a.b)
