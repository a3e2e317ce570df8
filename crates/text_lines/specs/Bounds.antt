-- What is held of a line is within its room.
use Rattle.std.specs.Prelude.{List, ℕ, ◌≤◌, length}

-- so many bytes, of a line that has room for 2,052
pub record Within (size : ℕ) (line : List ℕ) : Type 0 where
  pub fits : size ≤ 2052
  pub room : 2052 ≤ length line
