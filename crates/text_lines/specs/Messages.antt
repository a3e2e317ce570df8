-- What is said of a bad line. `name` is the file's name as it is shown, k the line's number, body its bytes.
use Rattle.std.specs.Prelude.{List, ◌++◌, ℕ}
use Rattle.byte_texts.specs.Ascii.{ascii}
use Rattle.byte_texts.specs.Texts.{decimal, shown_text}
use Rattle.text_lines.specs.declared.reasons.Reason.{Reason}
use Rattle.text_lines.specs.declared.reasons.Reason.TheVariants.{Words, WrongCount}

-- a line that may not stand there
unfoldable pub bad_text : List ℕ → ℕ → List ℕ → List ℕ → List ℕ
bad_text name k reason body = ascii "ERROR: " ++ name ++ ascii ", line " ++ decimal k ++ ascii ": " ++ reason ++ ascii ": " ++ shown_text body ++ ascii "\n"

-- a list whose last line has another number than it names items: `items` are the words between the two
unfoldable pub wrong_text : ℕ → List ℕ → ℕ → List ℕ
wrong_text says items names = ascii "says " ++ decimal says ++ items ++ decimal names

-- why a line may not stand there
unfoldable pub reason_text : Reason → List ℕ
reason_text (Words words) = words.now
reason_text (WrongCount says items names) = wrong_text says items.now names
