-- What a line of a text of pairs is. Bytes are numbers; a line has no line feed.
use Rattle.std.specs.Prelude.{cond, ◌||◌, List, ℕ, eqb, leb, Result, Ok, Err}
use Rattle.byte_texts.specs.Ascii.{ascii}
use Rattle.offset_lines.specs.Lines.{drop_blanks, is_void, line_by}
use Rattle.offset_lines.specs.Numbers.{size_of, number_of, after_number}
use Rattle.offset_lines.specs.declared.entry.Entry.{Entry}
use Rattle.offset_lines.specs.declared.entry.Fault.{Fault}
use Rattle.offset_lines.specs.declared.entry.Fault.TheVariants.{NotTwoNumbers, TooLarge}
use Rattle.pair_lines.specs.declared.pair.Pair.{Pair}

-- two numbers of so many digits: none are no number, and a value from 65,536 up is too large
unfoldable pub pair_of : ℕ → ℕ → ℕ → ℕ → Result Pair Fault
pair_of olds old news new = cond (eqb olds 0 || eqb news 0) (Err NotTwoNumbers) (cond (leb 65536 old || leb 65536 new) (Err TooLarge) (Ok (record { old = old; new = new })))

-- a text of two numbers, and behind them nothing or a comment. What stands right behind digits is no digit: blanks part the two
unfoldable pub second_of : List ℕ → List ℕ
second_of text = drop_blanks (after_number text)

unfoldable pub pair_text : List ℕ → Result Pair Fault
pair_text text =
    cond (is_void (drop_blanks (after_number (second_of text)))) (pair_of (size_of text) (number_of text) (size_of (second_of text)) (number_of (second_of text))) (Err NotTwoNumbers)

-- a line of pairs
unfoldable pub pair_line_of : List ℕ → Result (Entry Pair) Fault
pair_line_of line = line_by (ascii " pair") (ascii " pairs") pair_text line
