-- The lines of a text, and what they say together: the laws of a file are stated by these.
use Rattle.std.specs.Prelude.{Bool, true, false, cond, ◌||◌, List, [], ◌∷◌, map, ℕ, eqb, Result, Ok, Err}
use Rattle.offset_lines.specs.Lines.{line_of}
use Rattle.offset_lines.specs.declared.entry.Entry.{Entry}
use Rattle.offset_lines.specs.declared.entry.Entry.TheVariants.{Blank, Item, Says}
use Rattle.offset_lines.specs.declared.entry.Fault.{Fault}
use Rattle.text_lines.specs.Texts.{more, body_of}

-- one byte more at the start of the first line
unfoldable pub on_first : ℕ → List (List ℕ) → List (List ℕ)
on_first b [] = (b ∷ []) ∷ []
on_first b (line ∷ lines) = (b ∷ line) ∷ lines

-- a text cut at each line feed: what is behind the last is a line where it is not empty
unfoldable pub lines_of : List ℕ → List (List ℕ)
lines_of [] = []
lines_of (b ∷ bs) = cond (eqb b 10) ([] ∷ lines_of bs) (on_first b (lines_of bs))

-- the lines without a byte order mark
unfoldable pub bodies_of : List (List ℕ) → List (List ℕ)
bodies_of [] = []
bodies_of (line ∷ lines) = body_of 0 line ∷ lines

-- what a text's lines are, line 1 first
abbrev pub LineEntry : Type 0
LineEntry = Result (Entry ℕ) Fault

unfoldable pub entries_of : List ℕ → List LineEntry
entries_of text = map line_of (bodies_of (lines_of text))

-- whether an entry names the offset p, is the last line of a list of n offsets, is one of any, and may not stand in any file
unfoldable pub is_offset : ℕ → LineEntry → Bool
is_offset p (Ok Blank) = false
is_offset p (Ok (Item q)) = eqb p q
is_offset p (Ok (Says n)) = false
is_offset p (Err fault) = false

unfoldable pub says_count : ℕ → LineEntry → Bool
says_count n (Ok Blank) = false
says_count n (Ok (Item q)) = false
says_count n (Ok (Says m)) = eqb n m
says_count n (Err fault) = false

unfoldable pub is_last : LineEntry → Bool
is_last (Ok Blank) = false
is_last (Ok (Item q)) = false
is_last (Ok (Says n)) = true
is_last (Err fault) = false

unfoldable pub is_bad : LineEntry → Bool
is_bad (Ok Blank) = false
is_bad (Ok (Item q)) = false
is_bad (Ok (Says n)) = false
is_bad (Err fault) = true

-- whether one of several is so
unfoldable pub some_entry : (LineEntry → Bool) → List LineEntry → Bool
some_entry f [] = false
some_entry f (e ∷ es) = f e || some_entry f es

-- the line that names p first, with k lines above: 0 for none, and none counts behind the last line of a list
unfoldable pub first_line : ℕ → ℕ → List LineEntry → ℕ
first_line p k [] = 0
first_line p k (e ∷ es) = cond (is_offset p e) (more k) (cond (is_last e) 0 (first_line p (more k) es))
