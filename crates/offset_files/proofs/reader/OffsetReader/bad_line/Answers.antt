use mathlib.Core.Path.{refl}
use Rattle.text_lines.specs.Tallies.{bad_counts}
use Rattle.offset_files.specs.Files.{bad_line}
use Rattle.offset_files.proofs.HoldsLaws.{report_made}
use Rattle.offset_files.proofs.reader.OffsetReader.bad_line.Goals as goal

pub returns-clause-made : goal.returns-clause-made
unfolding bad_line bad_counts
returns-clause-made c = report_made (λ f. refl) c.bad_line.ensures refl refl refl refl
