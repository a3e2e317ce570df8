use mathlib.Core.Path.{◌∙◌}
use borrow.Author.Rules.{part_to_end}
use Rattle.offset_lines.proofs.Texts.{blanks_skipped}
use Rattle.offset_lines.proofs.scans.skip_blanks.Goals as goal

pub returns-clause-bytes : goal.returns-clause-bytes
returns-clause-bytes c = let text = c.args.text.now in part_to_end text c.blanks.result ∙ rw c.blanks.ensures (blanks_skipped text)
