-- A history with its walk as a number.
use Rattle.std.specs.Prelude.{◌≡◌, ℕ, ◌≤◌, ◌<◌}
use Rattle.sets.specs.Members.{set_of, empty}
use Rattle.history.specs.Runs.{Input, Output}
use Rattle.history.specs.ThirdDemand.{ThirdDemand}

-- a run of an unknown walk: number 99, lengths and count 0, every word as it was
abbrev pub unknown_walk : Input → Output
unknown_walk i = record { number = 99; a = set_of (empty 0); words = i.words; b = set_of (empty 0); other = i.other; count = 0; out = i.out }

pub record ExportedRun (walk : ℕ) (i : Input) (o : Output) : Type 0 where
  pub unknown : 4 < walk → o ≡ unknown_walk i
  pub known : walk ≤ 4 → ThirdDemand i o
