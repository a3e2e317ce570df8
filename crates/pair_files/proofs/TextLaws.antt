-- A text in pieces. Assumes nothing.
use mathlib.Core.Path.{◌≡◌, ap}
use mathlib.Core.List.{List, flatten}
use Prim.Native.Nat.{ℕ}
use Rattle.text_lines.specs.Texts.{at_end}
use Rattle.text_lines.proofs.PieceLaws.{take_pieces, pieces_joined}
use Rattle.pair_files.specs.Files.{no_text, take_pair, pair_file_of}

-- a file read in any pieces is that of the pieces joined
pub file_pieces : (name : List ℕ) (size : ℕ) (more : List (List ℕ)) → at_end (take_pair name size) (take_pieces (take_pair name size) no_text more) ≡ pair_file_of name size (flatten more)
unfolding pair_file_of
file_pieces name size more = ap (at_end (take_pair name size)) (pieces_joined (take_pair name size) more no_text)
