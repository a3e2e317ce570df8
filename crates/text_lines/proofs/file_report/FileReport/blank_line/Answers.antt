use mathlib.Core.Path.{refl}
use Rattle.text_lines.proofs.TallyLaws.{blank_holds}
use Rattle.text_lines.proofs.file_report.FileReport.blank_line.Goals as goal

pub returns-clause-counted : goal.returns-clause-counted
returns-clause-counted c = record { same = refl; holds = λ f h. rw c.more-self.ensures (blank_holds h) }
