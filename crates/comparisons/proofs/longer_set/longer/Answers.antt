use mathlib.Core.Path.{refl, sym, ap, ◌∙◌}
use Rattle.sets.specs.Refusals.{number_of}
use Rattle.sets.specs.Rules.{first_words}
use Rattle.sets.proofs.OutcomeLaws.{given_no}
use Rattle.sets.proofs.RefusalLaws.{number_ne0}
use Rattle.comparisons.proofs.SliceLaws.{longer_first, longer_second}
use Rattle.comparisons.proofs.longer_set.longer.Goals as goal

pub returns-in-Err : goal.returns-in-Err
returns-in-Err c =
    given_no (λ m. first_words c.args.words 0) _ c.longer_number.ensures (λ z. number_ne0 c.in-Err.field-0 (ap number_of (sym c.in-Err.is) ∙ z))

pub returns-then-b-a : goal.returns-then-b-a
returns-then-b-a c =
    let a = c.args in
    c.as_slice.ensures ∙ longer_first a.a a.words a.b a.other c.in-Ok.ensures refl c.if-b-a.true

pub returns-else-b-a : goal.returns-else-b-a
returns-else-b-a c =
    let a = c.args in
    c.as_slice-else-b-a.ensures ∙ longer_second a.a a.words a.b a.other c.in-Ok.ensures refl c.if-b-a.false
