use mathlib.Core.Path.{sym, ap, ◌∙◌}
use Rattle.sets.specs.declared.fixed_bit_set.FixedBitSet.{FixedBitSet}
use Rattle.edits.specs.Rules.{insert_rule}
use Rattle.pair_listings.proofs.NamedLaws.{named_more, named_skip}
use Rattle.pair_listings.proofs.moves.mark_named.Goals as goal

pub returns-then-block-ne0 : goal.returns-then-block-ne0
returns-then-block-ne0 c = λ vs room l e.
    let a = c.args in
    named_more _ vs a.p e room l (λ z. c.if-block-ne0.true (c.block.ensures ∙ z))
    (c.insert.ensures ∙ ap (λ (set : FixedBitSet). insert_rule set a.out.now a.p) c.new.ensures)

pub returns-else-block-ne0 : goal.returns-else-block-ne0
returns-else-block-ne0 c = λ vs room l e. named_skip _ vs _ e (sym c.block.ensures ∙ c.if-block-ne0.false)
