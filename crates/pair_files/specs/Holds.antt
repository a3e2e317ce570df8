-- What is held of a text of pairs in the lent buffers.
use Rattle.std.specs.Prelude.{◌≡◌, List, ℕ, ◌<◌, length, get_or}
use Rattle.std.specs.Borrow.{GName}
use Rattle.text_lines.specs.Tallies.{Counts}
use Rattle.text_lines.specs.Reports as Reports
use Rattle.text_lines.specs.Reports.{HoldsReport}
use Rattle.pair_files.specs.Files.{PairFile, take_pair}
use Rattle.pair_files.specs.declared.reader.PairReader.{PairReader}

-- what is counted of the lines of a file
abbrev pub counts_of : PairFile → Counts
counts_of f = record { lines = f.lines; named = f.pairs; said = f.said; bads = f.bads; report = f.report }

-- the report, its name, the new length and the buffers stay
pub record Kept : Type 0 where
  pub report : GName
  pub of : Reports.Kept
  pub size : ℕ
  pub to : GName
  pub from : GName

abbrev pub kept : PairReader → Kept
kept r = record { report = r.report.ghost_name; of = Reports.kept r.report.now; size = r.size; to = r.to.ghost_name; from = r.from.ghost_name }

-- what one line more makes of a file
abbrev pub step : Kept → List ℕ → PairFile → PairFile
step k = take_pair k.of.name k.size

-- the two tables have the words of all offsets of 0 to 65,535
pub record HoldsPairs (f : PairFile) (r : PairReader) : Type 0 where
  -- the report stands at the start of its buffer, as far as that has room
  pub counts : HoldsReport (counts_of f) r.report.now
  pub to_long : length r.to.now ≡ 65536
  pub to-words : (p : ℕ) → p < 65536 → get_or r.to.now p 0 ≡ f.to p
  pub from_long : length r.from.now ≡ 65536
  pub from-words : (q : ℕ) → q < 65536 → get_or r.from.now q 0 ≡ f.from q
