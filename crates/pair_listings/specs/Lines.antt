-- The lines of pairs that the tool writes, byte for byte. Names are as they are shown.
use Rattle.std.specs.Prelude.{Bool, cond, List, [], ◌∷◌, ◌++◌, ℕ, ◌+◌, eqb}
use Rattle.byte_texts.specs.Ascii.{ascii}
use Rattle.byte_texts.specs.Texts.{decimal}
use Rattle.listing_lines.specs.Lines.{place_text}
use Rattle.pair_listings.specs.Tables.{partner}

-- an offset and the one that it is paired with; on a sheet with its place before it
unfoldable pub pair_text : Bool → ℕ → ℕ → ℕ → ℕ → List ℕ
pair_text sheet total place p q = place_text sheet total place ++ decimal p ++ ascii " " ++ decimal q ++ ascii "\n"

-- offsets and their partners, a pair a line, from a place on
unfoldable pub pair_lines_text : Bool → ℕ → ℕ → (ℕ → ℕ) → List ℕ → List ℕ
pair_lines_text sheet total place table [] = []
pair_lines_text sheet total place table (p ∷ ps) = pair_text sheet total place p (partner table p) ++ pair_lines_text sheet total (place + 1) table ps

-- the last line
unfoldable pub pairs_complete_text : ℕ → List ℕ
pairs_complete_text n = ascii "# complete: " ++ decimal n ++ cond (eqb n 1) (ascii " pair\n") (ascii " pairs\n")

-- an offset of the old file that no line of the pairs names
unfoldable pub unpaired_text : List ℕ → ℕ → ℕ → List ℕ → List ℕ
unpaired_text old line p pairs =
    ascii "ERROR: " ++ old ++ ascii ", line " ++ decimal line ++ ascii ": offset " ++ decimal p ++ ascii " has no pair in " ++ pairs ++ ascii "\n"
