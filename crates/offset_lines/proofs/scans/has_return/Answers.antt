use mathlib.Core.Path.{◌∙◌}
use Rattle.offset_lines.proofs.Texts.{return_any}
use Rattle.offset_lines.proofs.scans.has_return.Goals as goal

pub returns : goal.returns
returns c = c.contains.ensures.value ∙ return_any c.args.text.now
