use mathlib.Core.Path.{ap₂}
use mathlib.Core.Bool.{Bool, false}
use Rattle.sets.specs.Outcomes.{Outcome}
use Rattle.sets.proofs.OutcomeLaws.{given_yes}
use Rattle.edits.proofs.PositionChanges.{position_room, position_was, position_outcome, put_refused}
use Rattle.edits.proofs.positions.put.Goals as goal

pub returns-in_err-check_position : goal.returns-in_err-check_position
returns-in_err-check_position c = put_refused _ _ _ _ _ _ c.from_residual.ensures.1 c.in_err-check_position.ensures

pub bounds-words-k : goal.bounds-words-k
bounds-words-k c = position_room _ _ _ c.in_ok-check_position.ensures

pub bounds-words-k-2 : goal.bounds-words-k-2
bounds-words-k-2 c = position_room _ _ _ c.in_ok-check_position.ensures

pub returns : goal.returns
returns c =
    let yes = c.in_ok-check_position.ensures in
    ap₂ (λ (o : Outcome) (w : Bool). record { edit = o; was = w })
    (position_outcome _ _ _ yes (λ k. (c.slice_known-2-1.given k).fits) _ c.change_word.ensures)
    (given_yes (λ m. false) yes (position_was _ _ _ yes))
