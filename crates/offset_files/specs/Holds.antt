-- What is held of a text in the lent buffers.
use Rattle.std.specs.Prelude.{◌≡◌, Bool, cond, not, List, ℕ, ◌+◌, ◌*◌, ◌<◌, eqb, length, get_or}
use Rattle.std.specs.Borrow.{GName}
use Rattle.sets.specs.Members.{read}
use Rattle.sets.specs.declared.fixed_bit_set.FixedBitSet.{FixedBitSet}
use Rattle.text_lines.specs.Tallies.{Counts}
use Rattle.text_lines.specs.Reports as Reports
use Rattle.text_lines.specs.Reports.{HoldsReport}
use Rattle.offset_files.specs.Files.{File, take_line}
use Rattle.offset_files.specs.declared.reader.OffsetReader.{OffsetReader}

-- a word of the table of an offset: its first line doubled, one more where it is named again
unfoldable pub table_word : ℕ → Bool → ℕ
table_word first again = first * 2 + cond again 1 0

-- the offsets of 0 to 65,535
abbrev pub all_offsets : FixedBitSet
all_offsets = record { length = 65536 }

-- what is counted of the lines of a file
abbrev pub counts_of : File → Counts
counts_of f = record { lines = f.lines; named = f.named; said = f.said; bads = f.bads; report = f.report }

-- the report, its name and the buffers stay
pub record Kept : Type 0 where
  pub report : GName
  pub of : Reports.Kept
  pub words : GName
  pub table : GName

abbrev pub kept : OffsetReader → Kept
kept r = record { report = r.report.ghost_name; of = Reports.kept r.report.now; words = r.words.ghost_name; table = r.table.ghost_name }

-- one line more of a file of that name
abbrev pub step : Kept → List ℕ → File → File
step k = take_line k.of.name

pub record HoldsFile (f : File) (r : OffsetReader) : Type 0 where
  -- the report stands at the start of its buffer, as far as that has room
  pub counts : HoldsReport (counts_of f) r.report.now
  pub repeats : r.repeats ≡ f.repeats
  -- the set has exactly the offsets that are named
  pub words_long : length r.words.now ≡ 1024
  pub members : (p : ℕ) → p < 65536 → (read r.words.now all_offsets).has p ≡ not (eqb (f.first p) 0)
  pub table_long : length r.table.now ≡ 65536
  pub entries : (p : ℕ) → p < 65536 → get_or r.table.now p 0 ≡ table_word (f.first p) (f.again p)
