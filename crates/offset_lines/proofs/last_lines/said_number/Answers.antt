use mathlib.Core.Path.{sym, ap, ◌∙◌}
use Prim.Native.Nat.{ℕ}
use mathlib.Core.List.{List}
use lib.ListN.{length}
use Rattle.std.specs.Prelude.{Option}
use Rattle.byte_texts.specs.Ascii.{ascii}
use Rattle.offset_lines.specs.Lines.{said_number, said_of, digits_of, value_of, after_digits}
use Rattle.offset_lines.proofs.Parts.{count_within, said_is}
use Rattle.offset_lines.proofs.Texts.{strips_as}
use Rattle.offset_lines.proofs.last_lines.said_number.Goals as goal

pub slice_bounds-said_of-count : goal.slice_bounds-said_of-count
slice_bounds-said_of-count c = count_within _ _ _ c.read_digits-digits.ensures

pub slice_bounds-said_of-start : goal.slice_bounds-said_of-start
slice_bounds-said_of-start c = count_within _ _ _ c.read_digits-digits.ensures

pub returns : goal.returns
unfolding said_number ascii
returns c =
    let a = c.args in
    let r = c.read_digits-digits.ensures in
    let cut = rw c.as_slice.ensures at c.in_ok-text.ensures.cases in
    let said : List ℕ → Option ℕ = λ text. said_of a.items.one.now a.items.many.now (length (digits_of 10 text)) (value_of 10 (digits_of 10 text)) (after_digits 10 text) in
    simp (sym (strips_as (ascii " ") a.rest.now) ∙ cut.0) (c.said_of.ensures ∙ said_is a.items.one.now a.items.many.now _ _ _ r ∙ ap said cut.1)

pub returns-in_err-text : goal.returns-in_err-text
unfolding said_number ascii
returns-in_err-text c = simp (sym (strips_as (ascii " ") c.args.rest.now) ∙ rw c.as_slice.ensures at c.in_err-text.ensures.cases) c.from_residual.ensures
