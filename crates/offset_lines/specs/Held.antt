-- What is told of a value that is held up to 65,536: none is a larger one.
use Rattle.std.specs.Prelude.{cond, ◌&&◌, ◌||◌, List, ℕ, eqb, ltb, Option, Some, None, Result, Err}
use Rattle.offset_lines.specs.Lines.{is_text, offset_of}
use Rattle.offset_lines.specs.declared.entry.Fault.{Fault}
use Rattle.offset_lines.specs.declared.entry.Fault.TheVariants.{NotANumber, TooLarge}

-- as an offset: below 65,536
unfoldable pub held_offset : Option ℕ → Result ℕ Fault
held_offset (Some v) = offset_of v
held_offset None = Err TooLarge

-- the offset of so many digits
unfoldable pub held_number : ℕ → Option ℕ → Result ℕ Fault
held_number count value = cond (eqb count 0) (Err NotANumber) (held_offset value)

-- what so many digits say in the last line of a list, before a word
unfoldable pub held_said : List ℕ → List ℕ → ℕ → Option ℕ → List ℕ → Option ℕ
held_said one many count value word = cond (ltb 0 count && (is_text one word || is_text many word)) value None
