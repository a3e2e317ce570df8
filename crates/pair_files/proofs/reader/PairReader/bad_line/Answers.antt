use mathlib.Core.Path.{refl}
use Rattle.text_lines.specs.Tallies.{bad_counts}
use Rattle.pair_files.specs.Files.{blank_line, bad, bad_line}
use Rattle.pair_files.proofs.HoldsLaws.{report_made}
use Rattle.pair_files.proofs.reader.PairReader.bad_line.Goals as goal

pub returns : goal.returns
unfolding bad_line bad blank_line bad_counts
returns c = report_made (λ f. refl) c.bad_line.ensures refl refl refl refl
