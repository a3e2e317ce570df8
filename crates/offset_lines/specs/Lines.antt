-- What a line of a text of offsets is. Bytes are numbers; a line has no line feed.
use Rattle.std.specs.Prelude.{Bool, true, false, cond, ◌&&◌, ◌||◌, List, [], ◌∷◌, ℕ, ◌+◌, ◌-◌, ◌*◌, ◌^◌, eqb, leb, ltb, length, drop, Option, Some, None, Result, Ok, Err}
use Rattle.byte_texts.specs.Ascii.{ascii}
use Rattle.offset_lines.specs.declared.entry.Entry.{Entry}
use Rattle.offset_lines.specs.declared.entry.Entry.TheVariants.{Blank, Item, Says}
use Rattle.offset_lines.specs.declared.entry.Fault.{Fault}
use Rattle.offset_lines.specs.declared.entry.Fault.TheVariants.{NotANumber, NotTwoNumbers, TooLarge, CarriageReturn, TooLong, Damaged}

-- what is said of a line that may not stand there
unfoldable pub fault_text : Fault → List ℕ
fault_text NotANumber = ascii "not a number"
fault_text NotTwoNumbers = ascii "not two numbers"
fault_text TooLarge = ascii "65536 or above"
fault_text CarriageReturn = ascii "a carriage return inside the line"
fault_text TooLong = ascii "longer than 2048 bytes"
fault_text Damaged = ascii "a damaged last line of a list"

-- a space or a tab
unfoldable pub is_blank : ℕ → Bool
is_blank b = eqb b 32 || eqb b 9

-- a digit: 0 to 9, and in base 16 also a to f and A to F
unfoldable pub is_digit : ℕ → ℕ → Bool
is_digit base b = (leb 48 b && leb b 57) || (eqb base 16 && ((leb 97 b && leb b 102) || (leb 65 b && leb b 70)))

unfoldable pub digit_value : ℕ → ℕ
digit_value b = cond (leb b 57) (b - 48) (cond (leb b 70) (b - 55) (b - 87))

-- the bytes from the first that is not blank
unfoldable pub drop_blanks : List ℕ → List ℕ
drop_blanks [] = []
drop_blanks (b ∷ bs) = cond (is_blank b) (drop_blanks bs) (b ∷ bs)

-- the digits at the start, and the bytes behind them
unfoldable pub digits_of : ℕ → List ℕ → List ℕ
digits_of base [] = []
digits_of base (b ∷ bs) = cond (is_digit base b) (b ∷ digits_of base bs) []

unfoldable pub after_digits : ℕ → List ℕ → List ℕ
after_digits base [] = []
after_digits base (b ∷ bs) = cond (is_digit base b) (after_digits base bs) (b ∷ bs)

-- the value of digits, the first highest
unfoldable pub value_of : ℕ → List ℕ → ℕ
value_of base [] = 0
value_of base (b ∷ bs) = digit_value b * base ^ length bs + value_of base bs

-- a value is held up to 65,536
unfoldable pub held_value : ℕ → Option ℕ
held_value v = cond (leb v 65536) (Some v) None

-- whether a text starts with these bytes, and whether it is these bytes
unfoldable pub starts_with : List ℕ → List ℕ → Bool
starts_with [] text = true
starts_with (p ∷ ps) [] = false
starts_with (p ∷ ps) (b ∷ bs) = eqb p b && starts_with ps bs

unfoldable pub is_text : List ℕ → List ℕ → Bool
is_text these text = starts_with these text && eqb (length these) (length text)

-- nothing is there, or a comment
unfoldable pub is_void : List ℕ → Bool
is_void [] = true
is_void (b ∷ bs) = eqb b 35

-- an offset is below 65,536
unfoldable pub offset_of : ℕ → Result ℕ Fault
offset_of v = cond (ltb v 65536) (Ok v) (Err TooLarge)

-- digits of a value: none are no number, and a value from 65,536 up is too large
unfoldable pub number_of : ℕ → ℕ → Result ℕ Fault
number_of count value = cond (eqb count 0) (Err NotANumber) (offset_of value)

-- a text that starts with a number: digits, and behind them nothing or a comment
unfoldable pub number_text : ℕ → List ℕ → Result ℕ Fault
number_text base text =
    cond (is_void (drop_blanks (after_digits base text))) (number_of (length (digits_of base text)) (value_of base (digits_of base text))) (Err NotANumber)

unfoldable pub offset_text : List ℕ → Result ℕ Fault
offset_text text = cond (starts_with (ascii "0x") text) (number_text 16 (drop 2 text)) (number_text 10 text)

-- what stands behind `# complete:` in the last line of a list: a space, a number up to 65,536, and the word for one or for many; none where it is damaged
unfoldable pub said_of : List ℕ → List ℕ → ℕ → ℕ → List ℕ → Option ℕ
said_of one many count value word = cond (ltb 0 count && (is_text one word || is_text many word)) (held_value value) None

unfoldable pub said_number : List ℕ → List ℕ → List ℕ → Option ℕ
said_number one many rest =
    cond (starts_with (ascii " ") rest) (said_of one many (length (digits_of 10 (drop 1 rest))) (value_of 10 (digits_of 10 (drop 1 rest))) (after_digits 10 (drop 1 rest))) None

-- a line without the carriage return that ends it
unfoldable pub without_return : List ℕ → List ℕ
without_return [] = []
without_return (b ∷ []) = cond (eqb b 13) [] (b ∷ [])
without_return (b ∷ c ∷ bs) = b ∷ without_return (c ∷ bs)

-- whether a carriage return is there
unfoldable pub has_return : List ℕ → Bool
has_return [] = false
has_return (b ∷ bs) = eqb b 13 || has_return bs

module _ {T : Type 0} where
  abbrev pub says_of : Option ℕ → Result (Entry T) Fault
  says_of (Some n) = Ok (Says n)
  says_of None = Err Damaged

  -- `one` and `many` are the words for what a list names
  unfoldable pub complete_text : (one many : List ℕ) → List ℕ → Result (Entry T) Fault
  complete_text one many rest = says_of (said_number one many rest)

  abbrev pub item_line : Result T Fault → Result (Entry T) Fault
  item_line (Ok x) = Ok (Item x)
  item_line (Err e) = Err e

  -- a text from its first byte that is not blank; `item` is what a line names
  unfoldable pub text_of : (one many : List ℕ) → (List ℕ → Result T Fault) → List ℕ → Result (Entry T) Fault
  text_of one many item text =
      cond (is_void text) (cond (starts_with (ascii "# complete:") text) (complete_text one many (drop 11 text)) (Ok Blank)) (item_line (item text))

  -- a line has at most 2,048 bytes, and a carriage return only at its end
  unfoldable pub line_by : (one many : List ℕ) → (List ℕ → Result T Fault) → List ℕ → Result (Entry T) Fault
  line_by one many item line =
      cond (ltb 2048 (length line)) (Err TooLong) (cond (has_return (without_return line)) (Err CarriageReturn) (text_of one many item (drop_blanks (without_return line))))

-- a line of offsets
unfoldable pub line_of : List ℕ → Result (Entry ℕ) Fault
line_of line = line_by (ascii " offset") (ascii " offsets") offset_text line
