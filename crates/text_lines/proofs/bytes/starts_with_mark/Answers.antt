use mathlib.Core.Path.{◌∙◌}
use Rattle.offset_lines.proofs.Texts.{starts_as}
use Rattle.text_lines.proofs.BodyLaws.{mark}
use Rattle.text_lines.proofs.bytes.starts_with_mark.Goals as goal

pub returns : goal.returns
returns c = c.starts_with.ensures.value ∙ starts_as mark c.args.line.now
