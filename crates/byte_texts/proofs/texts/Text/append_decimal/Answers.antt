use mathlib.Core.Path.{◌∙◌}
use borrow.Author.Rules.{rules}
use Rattle.byte_texts.proofs.DecimalLaws.{decimal_is, digits_few}
use Rattle.byte_texts.proofs.GrowthLaws.{appended_as}
use Rattle.byte_texts.proofs.texts.Text.append_decimal.Goals as goal

pub returns : goal.returns
returns c =
    let d = c.decimal-count in
    appended_as c.append.ensures (d.ensures.digits ∙ decimal_is 20 d.result _ (digits_few d.result _ (search rules) d.ensures.len) d.ensures.len)
