use mathlib.Core.Path.{refl}
use Rattle.text_lines.specs.Tallies.{blank_counts}
use Rattle.offset_files.specs.Files.{blank_line}
use Rattle.offset_files.proofs.HoldsLaws.{report_made}
use Rattle.offset_files.proofs.reader.OffsetReader.blank_line.Goals as goal

pub returns-clause-made : goal.returns-clause-made
unfolding blank_line blank_counts
returns-clause-made c = report_made (λ f. refl) c.blank_line.ensures.counted refl refl refl refl
