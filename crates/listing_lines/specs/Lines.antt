-- The lines that the tool writes, byte for byte. Names are as they are shown.
use Rattle.std.specs.Prelude.{Bool, cond, ◌&&◌, List, [], ◌∷◌, ◌++◌, ℕ, ◌+◌, eqb}
use Rattle.byte_texts.specs.Ascii.{ascii}
use Rattle.byte_texts.specs.Texts.{decimal}

-- on a sheet each line starts with its place and how many there are
unfoldable pub place_text : Bool → ℕ → ℕ → List ℕ
place_text sheet total place = cond sheet (decimal place ++ ascii "/" ++ decimal total ++ ascii " ") []

-- an offset of a list, and one that only one of two files has
unfoldable pub offset_text : Bool → List ℕ → List ℕ → ℕ → List ℕ
offset_text missing has lacks p = cond missing (ascii "offset " ++ decimal p ++ ascii ": in " ++ has ++ ascii ", not in " ++ lacks) (decimal p)

unfoldable pub line_text : Bool → Bool → List ℕ → List ℕ → ℕ → ℕ → ℕ → List ℕ
line_text sheet missing has lacks total place p = place_text sheet total place ++ offset_text missing has lacks p ++ ascii "\n"

-- offsets one a line, from a place on
unfoldable pub lines_text : Bool → Bool → List ℕ → List ℕ → ℕ → ℕ → List ℕ → List ℕ
lines_text sheet missing has lacks total place [] = []
lines_text sheet missing has lacks total place (p ∷ ps) = line_text sheet missing has lacks total place p ++ lines_text sheet missing has lacks total (place + 1) ps

-- a number of offsets
unfoldable pub offsets_text : ℕ → List ℕ
offsets_text n = decimal n ++ cond (eqb n 1) (ascii " offset") (ascii " offsets")

-- the last line of a list, and the count alone
unfoldable pub complete_text : ℕ → List ℕ
complete_text n = ascii "# complete: " ++ offsets_text n ++ ascii "\n"

unfoldable pub count_text : ℕ → List ℕ
count_text n = decimal n ++ ascii "\n"

-- the verdict on two files: how many offsets each has, and how many only one has. With several tables a verdict starts with the table's name
unfoldable pub same_text : ℕ → List ℕ
same_text n = ascii "same: " ++ offsets_text n ++ ascii " in each\n"

unfoldable pub in_text : ℕ → List ℕ → List ℕ → List ℕ
in_text n words name = decimal n ++ words ++ name

unfoldable pub different_text : List ℕ → List ℕ → ℕ → ℕ → ℕ → ℕ → List ℕ
different_text name other in_name in_other only_name only_other =
    ascii "DIFFERENT: " ++ in_text in_name (ascii " in ") name ++ ascii ", " ++ in_text in_other (ascii " in ") other ++ ascii "; "
    ++ in_text only_name (ascii " only in ") name ++ ascii ", " ++ in_text only_other (ascii " only in ") other ++ ascii "\n"

unfoldable pub table_text : Bool → List ℕ → List ℕ
table_text several other = cond several (other ++ ascii ": ") []

unfoldable pub result_text : List ℕ → List ℕ → ℕ → ℕ → ℕ → ℕ → List ℕ
result_text name other in_name in_other only_name only_other =
    cond (eqb only_name 0 && eqb only_other 0) (same_text in_name) (different_text name other in_name in_other only_name only_other)

unfoldable pub verdict_text : Bool → List ℕ → List ℕ → ℕ → ℕ → ℕ → ℕ → List ℕ
verdict_text several name other in_name in_other only_name only_other = table_text several other ++ result_text name other in_name in_other only_name only_other

-- the verdict over several tables
unfoldable pub trouble_text : ℕ → List ℕ
trouble_text n = cond (eqb n 0) [] (ascii ", " ++ decimal n ++ ascii " not compared")

unfoldable pub tables_text : ℕ → ℕ → ℕ → List ℕ
tables_text same different trouble =
    decimal (same + different + trouble) ++ ascii " tables: " ++ decimal same ++ ascii " same, " ++ decimal different ++ ascii " DIFFERENT"
    ++ trouble_text trouble ++ ascii "\n"
