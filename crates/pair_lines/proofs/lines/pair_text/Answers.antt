use mathlib.Core.Path.{sym, ap, ◌∙◌}
use Rattle.offset_lines.specs.Lines.{held_value, is_void}
use Rattle.offset_lines.specs.Numbers.{number_of}
use Rattle.pair_lines.specs.Lines.{pair_text}
use Rattle.pair_lines.proofs.NumberLaws.{pair_held, pair_is, second_is, rest_is}
use Rattle.pair_lines.proofs.lines.pair_text.Goals as goal

pub returns-then-is_void : goal.returns-then-is_void
unfolding pair_text
returns-then-is_void c =
    let a = c.read_number.ensures in
    let b = c.read_number-2.ensures in
    let s = second_is c.args.text.now a.2 c.skip_blanks.ensures.bytes in
    let r = rest_is c.args.text.now s b.2 c.skip_blanks-2.ensures.bytes in
    simp (sym (ap is_void r) ∙ sym c.is_void.ensures ∙ c.if-is_void.true) (pair_is c.args.text.now a.0 s b.0 (pair_held _ _ _ _ c.pair_of.ensures a.1 (b.1 ∙ ap (λ t. held_value (number_of t)) s)))

pub returns-else-is_void : goal.returns-else-is_void
unfolding pair_text
returns-else-is_void c =
    let s = second_is c.args.text.now c.read_number.ensures.2 c.skip_blanks.ensures.bytes in
    let r = rest_is c.args.text.now s c.read_number-2.ensures.2 c.skip_blanks-2.ensures.bytes in
    simp (sym (ap is_void r) ∙ sym c.is_void.ensures ∙ c.if-is_void.false)
