use Prim.Native.Nat.{◌<◌, ◌≤◌, ◌-◌, ◌/◌}
use Rattle.masks.specs.Ranges.{end_block}
use Rattle.range_edits.proofs.BlockChanges.{no_word, one_word, many-words}
use native.Mathlib.Omega.{arith}
use Rattle.range_edits.proofs.covered.change_covered.Goals as goal

pub returns-then-first-last : goal.returns-then-first-last
returns-then-first-last c =
    let a = c.args in
    let met : a.start / 64 < end_block a.start a.end - 1 = rw c.by_shifts-masks.ensures at c.if-first-last.true in
    rw (c.change_block-then-first-last.ensures, c.change_whole.ensures, c.change_block.ensures, c.by_shifts-masks.ensures)
    (many-words a.change a.start a.end a.words.now (λ k. (c.slice_known-1.given k).fits) met)

pub returns-else-first-last : goal.returns-else-first-last
returns-else-first-last c =
    let a = c.args in
    let met : a.start / 64 < end_block a.start a.end = rw c.by_shifts-masks.ensures at c.if-first-end_block.true in
    let end : end_block a.start a.end - 1 ≤ a.start / 64 = rw c.by_shifts-masks.ensures at c.if-first-last.false in
    rw (c.change_block.ensures, c.by_shifts-masks.ensures)
    (one_word a.change a.start a.end a.words.now (λ k. (c.slice_known-1.given k).fits) (omega arith))

pub returns-else-first-end_block : goal.returns-else-first-end_block
returns-else-first-end_block c =
    let a = c.args in
    no_word a.change a.start a.end a.words.now (λ k. (c.slice_known-1.given k).fits) (rw c.by_shifts-masks.ensures at c.if-first-end_block.false)
