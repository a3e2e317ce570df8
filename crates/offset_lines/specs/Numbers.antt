-- A number at the start of a text, decimal or hexadecimal with `0x`. Bytes are numbers.
use Rattle.std.specs.Prelude.{cond, List, ℕ, length, drop}
use Rattle.byte_texts.specs.Ascii.{ascii}
use Rattle.offset_lines.specs.Lines.{digits_of, after_digits, value_of, starts_with}

-- a text that starts with a number: its base, and the text without `0x`
unfoldable pub base_of : List ℕ → ℕ
base_of text = cond (starts_with (ascii "0x") text) 16 10

unfoldable pub bare_of : List ℕ → List ℕ
bare_of text = cond (starts_with (ascii "0x") text) (drop 2 text) text

-- how many digits the number has, its value, and the bytes behind it
unfoldable pub size_of : List ℕ → ℕ
size_of text = length (digits_of (base_of text) (bare_of text))

unfoldable pub number_of : List ℕ → ℕ
number_of text = value_of (base_of text) (digits_of (base_of text) (bare_of text))

unfoldable pub after_number : List ℕ → List ℕ
after_number text = after_digits (base_of text) (bare_of text)
