use mathlib.Core.Path.{ap₂, ◌∙◌}
use mathlib.Core.Bool.{Bool}
use Prim.Native.Nat.{ℕ}
use Rattle.walks.proofs.WalkLaws.{own_chosen}
use Rattle.next_many.specs.Helpers.{filled}
use Rattle.next_many.proofs.CallLaws.{own_room, fill_written, fill_room}
use Rattle.next_many.proofs.one_part.fill_part.Goals as goal

pub returns : goal.returns
returns g c =
    let a = c.args in
    let e = c.fill.ensures.stored ∙ ap₂ (λ (has : ℕ → Bool) (top : ℕ). filled has top 0 a.part.low a.out.now) (own_chosen g.S.Select.selection a.a a.b) (own_room a.a c.requires) in
    record { room = fill_room _ a.part a.out.now e; steps = fill_written _ a.part a.out.now e c.fill.ensures.kept }
