use mathlib.Core.Path.{sym, ap, ◌∙◌}
use Rattle.std.specs.Prelude.{Ok}
use Rattle.text_lines.specs.Messages.{reason_text}
use Rattle.offset_lines.proofs.LineLaws.{offset_below}
use Rattle.offset_files.specs.Files.{entry_line}
use Rattle.offset_files.proofs.reader.OffsetReader.entry_line.Goals as goal

pub returns-in-Ok-Blank : goal.returns-in-Ok-Blank
unfolding entry_line
returns-in-Ok-Blank c = rw (sym c.parse_line.ensures, c.in-Ok-Blank.is, c.in-Ok-Blank.field-0-is) c.blank_line.ensures.made

pub returns-in-Ok-Item : goal.returns-in-Ok-Item
unfolding entry_line
returns-in-Ok-Item c =
    let is = sym c.parse_line.ensures ∙ c.in-Ok-Item.is ∙ ap Ok c.in-Ok-Item.field-0-is in
    rw is (record { same = c.offset_line.ensures.same; holds = λ f h. c.offset_line.ensures.held f (offset_below _ _ is) h })

pub returns-in-Ok-Says : goal.returns-in-Ok-Says
unfolding entry_line
returns-in-Ok-Says c = rw (sym c.parse_line.ensures, c.in-Ok-Says.is, c.in-Ok-Says.field-0-is) c.said_line.ensures.made

pub returns-in-Err : goal.returns-in-Err
unfolding entry_line reason_text
returns-in-Err c =
    rw (sym c.parse_line.ensures, c.in-Err.is) (record { same = c.bad_line.ensures.made.same; holds = λ f h. rw (sym c.text.ensures) (c.bad_line.ensures.made.holds f h) })
