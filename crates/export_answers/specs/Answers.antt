-- Answers as C takes them.
use Rattle.std.specs.Prelude.{Bool, true, false, ℕ, Option, Some, None}
use Rattle.sets.specs.Outcomes.{Found}
use Rattle.walks.specs.Rules.{Stepped, SteppedPair}
use Rattle.export_answers.specs.declared.answers.FbsFound.{FbsFound}
use Rattle.export_answers.specs.declared.answers.FbsStepped.{FbsStepped}
use Rattle.export_answers.specs.declared.answers.FbsSteppedPair.{FbsSteppedPair}

-- what an answer has of a position or none
pub record Place : Type 0 where
  pub found : Bool
  pub at : ℕ

-- a position is found; for none, 0 stands in its place
abbrev pub place_of : Option ℕ → Place
place_of (Some p) = record { found = true; at = p }
place_of None = record { found = false; at = 0 }

abbrev pub export_found : Found → FbsFound
export_found r = record { number = r.number; found = (place_of r.at).found; at = (place_of r.at).at }

-- the records of the parts are as the step left them
abbrev pub export_stepped : Stepped → FbsStepped
export_stepped r = record { number = r.number; found = (place_of r.at).found; at = (place_of r.at).at; part = r.part }

abbrev pub export_stepped_pair : SteppedPair → FbsSteppedPair
export_stepped_pair r = record { number = r.number; found = (place_of r.at).found; at = (place_of r.at).at; one = r.one; two = r.two }
