use mathlib.Core.Path.{ap, ◌∙◌}
use native.Mathlib.Omega.{arith}
use Rattle.parts.specs.Helpers.{select_word}
use Rattle.next_many.proofs.FillLaws.{filling_none, selected_fit, filling_start, filling_word, filling_over, filling_full, filling_past, filling_position, lowest_lt, lowest_le}
use Rattle.next_many.proofs.fill.fill.Goals as goal

pub returns-then-end-k-clause-stored : goal.returns-then-end-k-clause-stored
returns-then-end-k-clause-stored g c = filling_none _ _ _ _ _ _ (omega (arith, c.if-end-k.true, c.blocks_of.ensures))

pub loop-rest-init : goal.loop-rest-init
loop-rest-init g c =
    filling_start _ _ _ _ c.type_inv.words c.type_inv.other _ _ (omega (arith, c.if-end-k.false, c.blocks_of.ensures))
    (c.word.ensures ∙ ap (select_word g.S.Select.selection _) c.block.ensures)

pub overflow_add-p : goal.overflow_add-p
overflow_add-p g c = omega (arith, lowest_lt _ _ _ _ _ _ c.loop-rest-2.invariant c.loop-rest-2-test.true, c.trailing_zeros.ensures, c.loop-rest-2.invariant.inside)

pub returns-then-part-p-clause-stored : goal.returns-then-part-p-clause-stored
returns-then-part-p-clause-stored g c = filling_past _ _ _ _ _ _ c.loop-rest-2.invariant c.loop-rest-2-test.true c.trailing_zeros.ensures c.if-part-p.true

pub returns-then-out-count-clause-stored : goal.returns-then-out-count-clause-stored
returns-then-out-count-clause-stored g c = filling_full _ _ _ _ _ _ c.loop-rest-2.invariant c.if-out-count.true

pub loop-rest-2-smaller : goal.loop-rest-2-smaller
loop-rest-2-smaller g c = omega (arith, lowest_le _ _ _ _ _ _ c.loop-rest-2.invariant c.loop-rest-2-test.true, c.trailing_zeros.ensures, c.if-part-p.false)

pub loop-rest-2-preserved : goal.loop-rest-2-preserved
loop-rest-2-preserved g c =
    filling_position _ _ _ _ _ _ c.loop-rest-2.invariant c.loop-rest-2-test.true c.trailing_zeros.ensures c.if-part-p.false c.if-out-count.false

pub returns-then-end-k-2-clause-stored : goal.returns-then-end-k-2-clause-stored
returns-then-end-k-2-clause-stored g c = filling_over _ _ _ _ _ _ c.loop-rest-2.invariant c.loop-rest-2-test.false (omega (arith, c.if-end-k-2.true, c.blocks_of.ensures))

pub loop-rest-preserved : goal.loop-rest-preserved
loop-rest-preserved g c =
    filling_word _ _ _ _ _ _ c.loop-rest-2.invariant c.loop-rest-2-test.false (selected_fit _ _ _ c.type_inv.words c.type_inv.other) (omega (arith, c.if-end-k-2.false, c.blocks_of.ensures))
    (c.word-rest.ensures ∙ ap (select_word g.S.Select.selection _) c.block-in-loop-rest.ensures)
