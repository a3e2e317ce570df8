use mathlib.Core.Path.{◌∙◌}
use lib.ListN.{get_or}
use Rattle.blocks.proofs.BlockLaws.{swept_ext}
use Rattle.changes.proofs.WordChanges.{whole_insert, whole_remove, whole_toggle}
use Rattle.range_edits.proofs.covered.change_whole.Goals as goal

pub returns-in-Insert : goal.returns-in-Insert
returns-in-Insert c =
    let a = c.args in
    c.change_blocks.ensures
    ∙ swept_ext _ _ _ _ a.words.now (λ k l. rw c.in-Insert.is (whole_insert (get_or a.words.now k 0) (c.slice_known-1.given k).fits))

pub returns-in-Remove : goal.returns-in-Remove
returns-in-Remove c =
    let a = c.args in
    c.change_blocks-in-Remove.ensures
    ∙ swept_ext _ _ _ _ a.words.now (λ k l. rw c.in-Remove.is (whole_remove (get_or a.words.now k 0) (c.slice_known-1.given k).fits))

pub returns-in-Toggle : goal.returns-in-Toggle
returns-in-Toggle c =
    let a = c.args in
    c.change_blocks-in-Toggle.ensures
    ∙ swept_ext _ _ _ _ a.words.now (λ k l. rw c.in-Toggle.is (whole_toggle (get_or a.words.now k 0) (c.slice_known-1.given k).fits))
