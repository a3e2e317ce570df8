-- What a reader holds of the line that is not ended.
use Rattle.std.specs.Prelude.{◌≡◌, List, ℕ, ◌≤◌, min, length, take}
use Rattle.text_lines.specs.declared.open_line.OpenLine.{OpenLine}

-- of a line that is not ended as much as decides what it is: 2,052 bytes, for a line of up to 2,048 behind a byte order mark, and one more
pub record HoldsRest (rest : List ℕ) (line : OpenLine) : Type 0 where
  pub line_long : 2052 ≤ length line.bytes
  pub rest_length : line.length ≡ min 2052 (length rest)
  pub rest_bytes : take line.length line.bytes ≡ take 2052 rest
