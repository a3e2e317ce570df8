use Rattle.sets.proofs.RefusalLaws.{edit_refused}
use Rattle.edits.proofs.PositionChanges.{position_room, position_outcome}
use Rattle.edits.proofs.positions.change_position.Goals as goal

pub returns-in_err-check_position : goal.returns-in_err-check_position
returns-in_err-check_position c = edit_refused _ _ _ _ _ c.from_residual.ensures.1 c.in_err-check_position.ensures

pub bounds-words-k : goal.bounds-words-k
bounds-words-k c = position_room _ _ _ c.in_ok-check_position.ensures

pub bounds-words-k-2 : goal.bounds-words-k-2
bounds-words-k-2 c = position_room _ _ _ c.in_ok-check_position.ensures

pub returns : goal.returns
returns c = position_outcome _ _ _ c.in_ok-check_position.ensures (λ k. (c.slice_known-2-1.given k).fits) _ c.change_word.ensures
