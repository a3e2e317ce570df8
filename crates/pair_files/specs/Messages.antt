-- What is said of a pair. `name` is the file's name as it is shown, k the line's number.
use Rattle.std.specs.Prelude.{cond, List, [], ◌++◌, ℕ, ◌/◌, eqb, ltb}
use Rattle.byte_texts.specs.Ascii.{ascii}
use Rattle.byte_texts.specs.Texts.{decimal}

-- 10 and 11: an offset of a side that an earlier line named
unfoldable pub named_text : List ℕ → ℕ → List ℕ → ℕ → ℕ → List ℕ
named_text name k side offset first =
    ascii "ERROR: " ++ name ++ ascii ", line " ++ decimal k ++ side ++ decimal offset ++ ascii " was named on line " ++ decimal first ++ ascii "\n"

-- 4: a new offset that is not below the length
unfoldable pub beyond_text : List ℕ → ℕ → ℕ → ℕ → List ℕ
beyond_text name k offset size =
    ascii "ERROR: " ++ name ++ ascii ", line " ++ decimal k ++ ascii ": new offset " ++ decimal offset ++ ascii " is not below the length " ++ decimal size ++ ascii "\n"

-- each of them that there is, in the order 10, 11, 4: by the words of the two offsets in the tables, 0 for none
unfoldable pub named_fault : List ℕ → ℕ → List ℕ → ℕ → ℕ → List ℕ
named_fault name k side offset word = cond (eqb word 0) [] (named_text name k side offset (word / 65536))

unfoldable pub beyond_fault : List ℕ → ℕ → ℕ → ℕ → List ℕ
beyond_fault name k offset size = cond (ltb offset size) [] (beyond_text name k offset size)

unfoldable pub faults_text : List ℕ → ℕ → ℕ → ℕ → ℕ → ℕ → ℕ → List ℕ
faults_text name k size old new was came =
    named_fault name k (ascii ": old offset ") old was ++ named_fault name k (ascii ": new offset ") new came ++ beyond_fault name k new size

-- a list whose last line has another number than it names pairs
unfoldable pub wrong_count : ℕ → ℕ → List ℕ
wrong_count says names = ascii "says " ++ decimal says ++ ascii " pairs and names " ++ decimal names
