use native.Mathlib.Omega.{arith}
use mathlib.Core.Path.{sym}
use Rattle.sets.proofs.QuestionLaws.{first-both, valid}
use Rattle.sets.proofs.RefusalLaws.{edit_refused}
use Rattle.sets.proofs.OutcomeLaws.{given_yes}
use Rattle.sets.proofs.ReadLaws.{changed-outcome}
use Rattle.edits.proofs.ListChanges.{marking_start, marking_room, marking_next, marking_end}
use Rattle.edits.proofs.lists.insert_all.Goals as goal

pub returns-in_err-check_positions : goal.returns-in_err-check_positions
returns-in_err-check_positions c = edit_refused _ _ _ _ _ c.from_residual.ensures.1 c.in_err-check_positions.ensures

pub loop-position-init : goal.loop-position-init
loop-position-init c =
    let a = c.args in
    let asked = first-both _ _ (sym c.in_ok-check_positions.ensures) in
    marking_start _ _ _ (valid a.set a.words.now asked.0) (λ k. (c.slice_known-1.given k).fits) asked.1

pub bounds-words-p : goal.bounds-words-p
bounds-words-p c = let l = c.loop-position in marking_room _ _ _ l.position-index l.words l.invariant c.loop-position-test.true

pub bounds-words-p-in-loop-position : goal.bounds-words-p-in-loop-position
bounds-words-p-in-loop-position c = let l = c.loop-position in marking_room _ _ _ l.position-index l.words l.invariant c.loop-position-test.true

pub loop-position-preserved : goal.loop-position-preserved
loop-position-preserved c = let l = c.loop-position in marking_next _ _ _ l.position-index l.words l.invariant c.loop-position-test.true

pub returns : goal.returns
returns c =
    let l = c.loop-position in
    given_yes _ c.in_ok-check_positions.ensures (changed-outcome _ _ _ _ (marking_end _ _ _ l.position-index l.words l.invariant (omega arith)))
