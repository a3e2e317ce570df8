use mathlib.Core.Path.{ap, ◌∙◌}
use mathlib.Core.Bool.{Bool}
use Rattle.masks.specs.Ranges.{covers}
use Rattle.sets.specs.Members.{read, changed}
use Rattle.edits.specs.Rules.{over_range}
use Rattle.range_edits.proofs.ranges.set_range.Goals as goal

pub returns : goal.returns
returns c =
    let a = c.args in
    let ws = a.words.now in
    c.change_range.ensures
    ∙ ap (λ (f : Bool → Bool). over_range a.set ws a.start a.end (changed (covers a.start a.end) f (read ws a.set))) c.from.ensures
