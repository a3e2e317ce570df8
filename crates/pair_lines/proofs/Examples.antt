-- Lines computed from the definition. Assumes nothing.
use mathlib.Core.Path.{◌≡◌, refl}
use mathlib.Core.List.{[], ◌∷◌, ◌++◌, map}
use Prim.Native.String.{String}
use Rattle.std.specs.Prelude.{Result, Ok, Err, ℕ}
use Rattle.byte_texts.specs.Ascii.{ascii}
use Rattle.offset_lines.specs.Lines.{is_blank, is_digit, digit_value, drop_blanks, digits_of, after_digits, value_of, starts_with, is_text, is_void, said_of, said_number, held_value, complete_text, text_of, without_return, has_return, line_by}
use Rattle.offset_lines.specs.Numbers.{base_of, bare_of, size_of, number_of, after_number}
use Rattle.pair_lines.specs.Lines.{pair_of, second_of, pair_text, pair_line_of}
use Rattle.offset_lines.specs.declared.entry.Entry.{Entry}
use Rattle.offset_lines.specs.declared.entry.Entry.TheVariants.{Blank, Item, Says}
use Rattle.offset_lines.specs.declared.entry.Fault.{Fault}
use Rattle.offset_lines.specs.declared.entry.Fault.TheVariants.{NotTwoNumbers, TooLarge, CarriageReturn, Damaged}
use Rattle.pair_lines.specs.declared.pair.Pair.{Pair}

-- the line of two numbers
pair : ℕ → ℕ → Result (Entry Pair) Fault
pair old new = Ok (Item (record { old = old; new = new }))

line : String → Result (Entry Pair) Fault
line text = pair_line_of (ascii text)

-- a line with a carriage return, or a tab, between two texts
returned : String → String → Result (Entry Pair) Fault
returned text more = pair_line_of (ascii text ++ 13 ∷ ascii more)

tabbed : String → String → Result (Entry Pair) Fault
tabbed text more = pair_line_of (ascii text ++ 9 ∷ ascii more)

numbers : map line ("12 40" ∷ " 0x1F  7 # c" ∷ "7 0xfA" ∷ "0x0 0x0" ∷ "0012 0" ∷ "65535 65535" ∷ "1 2#" ∷ [])
    ≡ pair 12 40 ∷ pair 31 7 ∷ pair 7 250 ∷ pair 0 0 ∷ pair 12 0 ∷ pair 65535 65535 ∷ pair 1 2 ∷ []
unfolding line pair ascii pair_line_of line_by text_of complete_text pair_text second_of pair_of after_number number_of size_of bare_of base_of said_number said_of held_value is_void is_text starts_with value_of after_digits digits_of drop_blanks digit_value is_digit is_blank without_return has_return
numbers = refl

refused : map line ("12" ∷ "12 # 13" ∷ "12 13 14" ∷ "12,13" ∷ "12x13" ∷ "0x 13" ∷ "12 0X13" ∷ "-1 2" ∷ "99999 x" ∷ [])
    ≡ Err NotTwoNumbers ∷ Err NotTwoNumbers ∷ Err NotTwoNumbers ∷ Err NotTwoNumbers ∷ Err NotTwoNumbers ∷ Err NotTwoNumbers ∷ Err NotTwoNumbers ∷ Err NotTwoNumbers ∷ Err NotTwoNumbers ∷ []
unfolding line pair ascii pair_line_of line_by text_of complete_text pair_text second_of pair_of after_number number_of size_of bare_of base_of said_number said_of held_value is_void is_text starts_with value_of after_digits digits_of drop_blanks digit_value is_digit is_blank without_return has_return
refused = refl

large : map line ("65536 1" ∷ "1 65536" ∷ "0x10000 1" ∷ "1 99999999999999999999" ∷ []) ≡ Err TooLarge ∷ Err TooLarge ∷ Err TooLarge ∷ Err TooLarge ∷ []
unfolding line pair ascii pair_line_of line_by text_of complete_text pair_text second_of pair_of after_number number_of size_of bare_of base_of said_number said_of held_value is_void is_text starts_with value_of after_digits digits_of drop_blanks digit_value is_digit is_blank without_return has_return
large = refl

comments : map line ("" ∷ "  " ∷ "# 1 2" ∷ "# complete" ∷ "# complete: 302 pairs" ∷ "# complete: 1 pair" ∷ "# complete: 65536 pairs" ∷ [])
    ≡ Ok Blank ∷ Ok Blank ∷ Ok Blank ∷ Ok Blank ∷ Ok (Says 302) ∷ Ok (Says 1) ∷ Ok (Says 65536) ∷ []
unfolding line pair ascii pair_line_of line_by text_of complete_text pair_text second_of pair_of after_number number_of size_of bare_of base_of said_number said_of held_value is_void is_text starts_with value_of after_digits digits_of drop_blanks digit_value is_digit is_blank without_return has_return
comments = refl

damaged : map line ("# complete:" ∷ "# complete: pairs" ∷ "# complete: 302 offsets" ∷ "# complete: 302" ∷ "# complete:302 pairs" ∷ "# complete: 65537 pairs" ∷ [])
    ≡ Err Damaged ∷ Err Damaged ∷ Err Damaged ∷ Err Damaged ∷ Err Damaged ∷ Err Damaged ∷ []
unfolding line pair ascii pair_line_of line_by text_of complete_text pair_text second_of pair_of after_number number_of size_of bare_of base_of said_number said_of held_value is_void is_text starts_with value_of after_digits digits_of drop_blanks digit_value is_digit is_blank without_return has_return
damaged = refl

-- at the end, between the numbers, at the start, and alone; and a tab
returns : returned "12 3" "" ∷ returned "12" "3" ∷ returned "" "12 3" ∷ returned "" "" ∷ returned "# complete: 2 pairs" "" ∷ tabbed "12" "3" ∷ []
    ≡ pair 12 3 ∷ Err CarriageReturn ∷ Err CarriageReturn ∷ Ok Blank ∷ Ok (Says 2) ∷ pair 12 3 ∷ []
unfolding returned tabbed pair ascii pair_line_of line_by text_of complete_text pair_text second_of pair_of after_number number_of size_of bare_of base_of said_number said_of held_value is_void is_text starts_with value_of after_digits digits_of drop_blanks digit_value is_digit is_blank without_return has_return
returns = refl
