use mathlib.Core.Path.{ap, ◌∙◌}
use mathlib.Core.Bool.{Bool}
use lib.Dec.{eqb}
use Rattle.sets.specs.Members.{read, changed}
use Rattle.edits.specs.Rules.{at_position}
use Rattle.edits.proofs.positions.set.Goals as goal

pub returns : goal.returns
returns c =
    let a = c.args in
    let ws = a.words.now in
    c.change_position.ensures
    ∙ ap (λ (f : Bool → Bool). at_position a.set ws a.bit (changed (eqb a.bit) f (read ws a.set))) c.from.ensures
