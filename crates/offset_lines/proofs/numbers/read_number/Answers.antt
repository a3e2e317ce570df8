use mathlib.Core.Path.{sym, ◌∙◌}
use Rattle.byte_texts.specs.Ascii.{ascii}
use Rattle.offset_lines.proofs.Texts.{strips_as}
use Rattle.offset_lines.proofs.Parts.{count_within}
use Rattle.offset_lines.proofs.NumberLaws.{hex_bare, decimal-bare, number_is}
use Rattle.offset_lines.proofs.numbers.read_number.Goals as goal
use Rattle.offset_lines.proofs.numbers.read_number.Goals.{in-Some, in-None}

pub slice_bounds-result-count : goal.slice_bounds-result-count
slice_bounds-result-count c = count_within _ _ _ c.read_digits-digits.ensures

pub slice_bounds-result-start : goal.slice_bounds-result-start
slice_bounds-result-start c = count_within _ _ _ c.read_digits-digits.ensures

pub returns : goal.returns
unfolding ascii
returns c =
    let text = c.args.text.now in
    number_is _ text _ _ c.read_digits-digits.ensures (elim c.match-strip_prefix.branch [
      | in-Some w ↦
          let cut = rw c.as_slice.ensures at w.in-Some.ensures.cases in
          rw w.base-is (hex_bare text (sym (strips_as (ascii "0x") text) ∙ cut.0) cut.1)
      | in-None w ↦ rw w.base-is (decimal-bare text (sym (strips_as (ascii "0x") text) ∙ rw c.as_slice.ensures at w.in-None.ensures.cases))
    ])
