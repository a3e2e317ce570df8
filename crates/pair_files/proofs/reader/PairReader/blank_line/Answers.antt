use mathlib.Core.Path.{refl}
use Rattle.text_lines.specs.Tallies.{blank_counts}
use Rattle.pair_files.specs.Files.{blank_line}
use Rattle.pair_files.proofs.HoldsLaws.{report_made}
use Rattle.pair_files.proofs.reader.PairReader.blank_line.Goals as goal

pub returns : goal.returns
unfolding blank_line blank_counts
returns c = report_made (λ f. refl) c.blank_line.ensures.counted refl refl refl refl
