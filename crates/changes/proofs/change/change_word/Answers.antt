use Rattle.changes.proofs.WordChanges.{insert_word, remove_word, toggle_word}
use Rattle.changes.proofs.change.change_word.Goals as goal

pub returns-in-Insert : goal.returns-in-Insert
returns-in-Insert c =
    let a = c.args in
    rw c.in-Insert.is (insert_word a.mask a.word c.ranges.mask.fits c.ranges.word.fits)

pub returns-in-Remove : goal.returns-in-Remove
returns-in-Remove c =
    let a = c.args in
    rw c.in-Remove.is (remove_word a.mask a.word c.ranges.mask.fits c.ranges.word.fits)

pub returns-in-Toggle : goal.returns-in-Toggle
returns-in-Toggle c =
    let a = c.args in
    rw c.in-Toggle.is (toggle_word a.mask a.word c.ranges.mask.fits c.ranges.word.fits)
