use mathlib.Core.Path.{sym, ap, ◌∙◌}
use Rattle.offset_lines.specs.Lines.{drop_blanks, is_void}
use Rattle.offset_lines.proofs.NumberLaws.{number_told, offset_number}
use Rattle.offset_lines.proofs.lines.offset_text.Goals as goal

pub returns-then-is_void : goal.returns-then-is_void
returns-then-is_void c =
    let n = c.read_number.ensures in
    let s = c.skip_blanks.ensures.bytes ∙ ap drop_blanks n.2 in
    simp (offset_number c.args.text.now, sym (ap is_void s) ∙ sym c.is_void.ensures ∙ c.if-is_void.true) (c.number_of.ensures ∙ number_told c.args.text.now _ n)

pub returns-else-is_void : goal.returns-else-is_void
returns-else-is_void c =
    let s = c.skip_blanks.ensures.bytes ∙ ap drop_blanks c.read_number.ensures.2 in
    simp (offset_number c.args.text.now, sym (ap is_void s) ∙ sym c.is_void.ensures ∙ c.if-is_void.false)
