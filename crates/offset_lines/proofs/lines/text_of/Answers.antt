use mathlib.Core.Path.{refl, sym, ap, ◌∙◌}
use Rattle.byte_texts.specs.Ascii.{ascii}
use Rattle.offset_lines.specs.Lines.{complete_text, text_of, item_line}
use Rattle.offset_lines.proofs.Texts.{refused_as, strips_as}
use Rattle.offset_lines.proofs.lines.text_of.Goals as goal

pub returns-in-Some : goal.returns-in-Some
unfolding text_of ascii
returns-in-Some g c = λ item of.
    let cut = rw c.as_slice.ensures at c.in-Some.ensures.cases in
    simp (sym c.is_void.ensures ∙ c.if-not-is_void.false, sym (strips_as (ascii "# complete:") c.args.text.now) ∙ cut.0)
    (c.complete_text.ensures ∙ ap (complete_text _ _) cut.1)

pub returns : goal.returns
unfolding text_of ascii
returns g c = λ item of.
    simp (sym c.is_void.ensures ∙ c.if-not-is_void.false, sym (strips_as (ascii "# complete:") c.args.text.now) ∙ rw c.as_slice.ensures at c.in-None.ensures.cases)

pub returns-in_err-item : goal.returns-in_err-item
unfolding text_of
returns-in_err-item g c = λ item of.
    let is = of c.args.text.now _ (record { shown = c.args.text; shows = refl; says = record { met = c.in_err-item.ensures } }) in
    simp (sym c.is_void.ensures ∙ c.if-not-is_void.true) (refused_as _ _ c.from_residual.ensures.1 ∙ ap item_line is)

pub returns-then-not-is_void : goal.returns-then-not-is_void
unfolding text_of
returns-then-not-is_void g c = λ item of.
    let is = of c.args.text.now _ (record { shown = c.args.text; shows = refl; says = record { met = c.in_ok-item.ensures } }) in
    simp (sym c.is_void.ensures ∙ c.if-not-is_void.true) (ap item_line is)
