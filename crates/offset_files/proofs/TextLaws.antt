-- A text in pieces. Assumes nothing.
use mathlib.Core.Path.{◌≡◌, ap}
use mathlib.Core.List.{List, flatten}
use Prim.Native.Nat.{ℕ}
use Rattle.text_lines.proofs.PieceLaws.{take_pieces, pieces_joined}
use Rattle.offset_files.specs.Files.{no_text, take_line, at_end, file_of}

-- a file read in any pieces is that of the pieces joined
pub file_pieces : (name : List ℕ) (more : List (List ℕ)) → at_end name (take_pieces (take_line name) no_text more) ≡ file_of name (flatten more)
unfolding file_of
file_pieces name more = ap (at_end name) (pieces_joined (take_line name) more no_text)
