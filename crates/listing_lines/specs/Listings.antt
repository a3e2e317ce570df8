-- The lines of a listing, by its record.
use Rattle.std.specs.Prelude.{Bool, true, false, List, [], ℕ, Option, None, Some}
use Rattle.listing_lines.specs.Lines.{offset_text, line_text, lines_text}
use Rattle.listing_lines.specs.declared.lines.Listing.{Listing}
use Rattle.listing_lines.specs.declared.lines.Missing.{Missing}

-- whether the offsets are missing in one of two files, and the names of the files: of a list they are not read
abbrev pub is_missing : Option Missing → Bool
is_missing None = false
is_missing (Some files) = true

abbrev pub has_of : Option Missing → List ℕ
has_of None = []
has_of (Some files) = files.has.now

abbrev pub lacks_of : Option Missing → List ℕ
lacks_of None = []
lacks_of (Some files) = files.lacks.now

-- an offset, a line, and the lines from a place on
abbrev pub offset_of : Listing → ℕ → List ℕ
offset_of l p = offset_text (is_missing l.missing) (has_of l.missing) (lacks_of l.missing) p

abbrev pub line_of : Listing → ℕ → ℕ → List ℕ
line_of l place p = line_text l.places.sheet (is_missing l.missing) (has_of l.missing) (lacks_of l.missing) l.places.total place p

abbrev pub listed : Listing → ℕ → List ℕ → List ℕ
listed l place ps = lines_text l.places.sheet (is_missing l.missing) (has_of l.missing) (lacks_of l.missing) l.places.total place ps
