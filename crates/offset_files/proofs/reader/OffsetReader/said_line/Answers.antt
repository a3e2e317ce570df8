use mathlib.Core.Path.{refl}
use Rattle.byte_texts.specs.Ascii.{ascii}
use Rattle.offset_files.proofs.HoldsLaws.{report_made, said_counted}
use Rattle.offset_files.proofs.reader.OffsetReader.said_line.Goals as goal

pub returns-clause-made : goal.returns-clause-made
unfolding ascii
returns-clause-made c = report_made (said_counted _ _ _) c.said_line.ensures refl refl refl refl
