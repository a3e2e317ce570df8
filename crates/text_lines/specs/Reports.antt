-- What the report on a file keeps, what is said in it, and what it holds.
use Rattle.std.specs.Prelude.{◌≡◌, List, ℕ}
use Rattle.std.specs.Borrow.{GName}
use Rattle.byte_texts.specs.Growth.{Appended}
use Rattle.text_lines.specs.Tallies.{Counts, HoldsCounts}
use Rattle.text_lines.specs.declared.file_report.FileReport.{FileReport}

-- the file's name, and the buffer of what is said
pub record Kept : Type 0 where
  pub name : List ℕ
  pub buffer : GName

abbrev pub kept : FileReport → Kept
kept r = record { name = r.name.now; buffer = r.text.out.ghost_name }

-- these bytes are said behind, and nothing else is changed
pub record Says (before after : FileReport) (bytes : List ℕ) : Type 0 where
  pub name : after.name.now ≡ before.name.now
  pub tally : after.tally ≡ before.tally
  pub text : Appended before.text after.text bytes

-- what is counted and said
abbrev pub HoldsReport : Counts → FileReport → Type 0
HoldsReport f r = HoldsCounts f r.tally r.text
