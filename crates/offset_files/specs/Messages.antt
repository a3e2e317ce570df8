-- What is said of an offset and of the last line of a list. `name` is the file's name as it is shown, k the line's number.
use Rattle.std.specs.Prelude.{List, ◌++◌, ℕ}
use Rattle.byte_texts.specs.Ascii.{ascii}
use Rattle.byte_texts.specs.Texts.{decimal}

-- an offset that an earlier line named
unfoldable pub repeat_text : List ℕ → ℕ → ℕ → ℕ → List ℕ
repeat_text name k offset first =
    ascii "warning: " ++ name ++ ascii ", line " ++ decimal k ++ ascii ": offset " ++ decimal offset ++ ascii " was named on line " ++ decimal first ++ ascii "\n"

-- a list whose last line has another number than it names offsets
unfoldable pub wrong_count : ℕ → ℕ → List ℕ
wrong_count says names = ascii "says " ++ decimal says ++ ascii " offsets and names " ++ decimal names
