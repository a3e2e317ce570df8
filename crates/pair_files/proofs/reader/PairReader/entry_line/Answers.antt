use mathlib.Core.Path.{sym}
use Rattle.text_lines.specs.Messages.{reason_text}
use Rattle.pair_files.specs.Files.{entry_line}
use Rattle.pair_files.proofs.reader.PairReader.entry_line.Goals as goal

pub returns-in-Ok-Blank : goal.returns-in-Ok-Blank
unfolding entry_line
returns-in-Ok-Blank c = rw (sym c.parse_pair.ensures, c.in-Ok-Blank.is, c.in-Ok-Blank.field-0-is) c.blank_line.ensures

pub returns-in-Ok-Item : goal.returns-in-Ok-Item
unfolding entry_line
returns-in-Ok-Item c = rw (sym c.parse_pair.ensures, c.in-Ok-Item.is, c.in-Ok-Item.field-0-is) c.pair_line.ensures

pub returns-in-Ok-Says : goal.returns-in-Ok-Says
unfolding entry_line
returns-in-Ok-Says c = rw (sym c.parse_pair.ensures, c.in-Ok-Says.is, c.in-Ok-Says.field-0-is) c.said_line.ensures

pub returns-in-Err : goal.returns-in-Err
unfolding entry_line reason_text
returns-in-Err c =
    rw (sym c.parse_pair.ensures, c.in-Err.is) (record { same = c.bad_line.ensures.same; holds = λ f h. rw (sym c.text.ensures) (c.bad_line.ensures.holds f h) })
