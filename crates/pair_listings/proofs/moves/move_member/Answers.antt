use mathlib.Core.Path.{sym, ap, ◌∙◌}
use Prim.Native.Nat.{ℕ, ◌%◌}
use Rattle.sets.specs.Members.{read}
use Rattle.sets.specs.declared.fixed_bit_set.FixedBitSet.{FixedBitSet}
use Rattle.edits.specs.Rules.{insert_rule}
use Rattle.pair_listings.specs.Tables.{partner}
use Rattle.pair_listings.proofs.MoveLaws.{moved_more, moved_other, moved_unnamed}
use Rattle.pair_listings.proofs.moves.move_member.Goals as goal

pub returns-then-entry-ne0 : goal.returns-then-entry-ne0
unfolding partner
returns-then-entry-ne0 c = λ vs room e.
    let new = c.new-set in
    let a = c.args in
    moved_more _ _ vs a.p e room
    (sym (ap (λ (set : FixedBitSet). (read a.words.now set).has a.p) new.ensures) ∙ sym c.member.ensures ∙ c.if-member.true)
    (λ z. c.if-entry-ne0.true (c.block-entry.ensures ∙ z))
    (ap (λ (x : ℕ). x % 65536) c.block-entry.ensures)
    (c.insert.ensures ∙ ap (λ (set : FixedBitSet). insert_rule set a.out.now (c.block-entry.result % 65536)) new.ensures)

pub returns-else-entry-ne0 : goal.returns-else-entry-ne0
returns-else-entry-ne0 c = λ vs room e. moved_unnamed _ _ vs _ e (sym c.block-entry.ensures ∙ c.if-entry-ne0.false)

pub returns-else-member : goal.returns-else-member
returns-else-member c = λ vs room e.
    let a = c.args in
    moved_other _ _ vs a.p e
    (sym (ap (λ (set : FixedBitSet). (read a.words.now set).has a.p) c.new-set.ensures) ∙ sym c.member.ensures ∙ c.if-member.false)
