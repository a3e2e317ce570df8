use mathlib.Core.Path.{ap}
use Rattle.offset_files.specs.Holds.{Kept}
use Rattle.tool_files.proofs.offset_loading.read_offsets.Goals as goal

pub returns-clause-whole : goal.returns-clause-whole
returns-clause-whole g c = λ w t.
    let whole = c.read_text.ensures.whole _ (c.start.ensures.none w t) in
    rw (ap (λ (k : Kept). k.of.name) c.start.ensures.same) at whole
