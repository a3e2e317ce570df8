use mathlib.Core.Path.{ap}
use Rattle.pair_files.specs.Holds.{Kept}
use Rattle.tool_files.proofs.pair_loading.read_pairs.Goals as goal

pub returns-clause-whole : goal.returns-clause-whole
returns-clause-whole g c = λ w t.
    let whole = c.read_text.ensures.whole _ (c.start.ensures.none w t) in
    rw (ap (λ (k : Kept). k.of.name) c.start.ensures.same, ap (λ (k : Kept). k.size) c.start.ensures.same) at whole
