-- Lines computed from the definition. Assumes nothing.
use mathlib.Core.Path.{◌≡◌, refl}
use mathlib.Core.List.{[], ◌∷◌, ◌++◌, map}
use Prim.Native.String.{String}
use Rattle.std.specs.Prelude.{Result, Ok, Err, ℕ}
use Rattle.byte_texts.specs.Ascii.{ascii}
use Rattle.offset_lines.specs.Lines.{is_blank, is_digit, digit_value, drop_blanks, digits_of, after_digits, value_of, starts_with, is_text, is_void, number_of, number_text, said_of, said_number, held_value, offset_of, complete_text, offset_text, text_of, without_return, has_return, line_by, line_of}
use Rattle.offset_lines.specs.declared.entry.Entry.{Entry}
use Rattle.offset_lines.specs.declared.entry.Entry.TheVariants.{Blank, Item, Says}
use Rattle.offset_lines.specs.declared.entry.Fault.{Fault}
use Rattle.offset_lines.specs.declared.entry.Fault.TheVariants.{NotANumber, TooLarge, CarriageReturn, Damaged}

line : String → Result (Entry ℕ) Fault
line text = line_of (ascii text)

-- a line with a carriage return between two texts
returned : String → String → Result (Entry ℕ) Fault
returned text more = line_of (ascii text ++ 13 ∷ ascii more)

numbers : map line ("12" ∷ " 0x1F # c" ∷ "0xfA" ∷ "0012" ∷ "65535" ∷ "0xFFFF" ∷ "1#" ∷ [])
    ≡ Ok (Item 12) ∷ Ok (Item 31) ∷ Ok (Item 250) ∷ Ok (Item 12) ∷ Ok (Item 65535) ∷ Ok (Item 65535) ∷ Ok (Item 1) ∷ []
unfolding line ascii line_of line_by text_of complete_text said_number said_of held_value offset_text number_text number_of offset_of is_void is_text starts_with value_of after_digits digits_of drop_blanks digit_value is_digit is_blank without_return has_return
numbers = refl

refused : map line ("0X1F" ∷ "0x" ∷ "12 13" ∷ "-1" ∷ "1F" ∷ "65536" ∷ "0x10000" ∷ "99999999999999999999" ∷ [])
    ≡ Err NotANumber ∷ Err NotANumber ∷ Err NotANumber ∷ Err NotANumber ∷ Err NotANumber ∷ Err TooLarge ∷ Err TooLarge ∷ Err TooLarge ∷ []
unfolding line ascii line_of line_by text_of complete_text said_number said_of held_value offset_text number_text number_of offset_of is_void is_text starts_with value_of after_digits digits_of drop_blanks digit_value is_digit is_blank without_return has_return
refused = refl

comments : map line ("" ∷ "  " ∷ "# note" ∷ "# complete" ∷ "# complete: 302 offsets" ∷ "# complete: 1 offset" ∷ "# complete: 65536 offsets" ∷ [])
    ≡ Ok Blank ∷ Ok Blank ∷ Ok Blank ∷ Ok Blank ∷ Ok (Says 302) ∷ Ok (Says 1) ∷ Ok (Says 65536) ∷ []
unfolding line ascii line_of line_by text_of complete_text said_number said_of held_value offset_text number_text number_of offset_of is_void is_text starts_with value_of after_digits digits_of drop_blanks digit_value is_digit is_blank without_return has_return
comments = refl

damaged : map line ("# complete:" ∷ "# complete: offsets" ∷ "# complete: 302 offset of" ∷ "# complete: 302" ∷ "# complete:302 offsets" ∷ "# complete: 65537 offsets" ∷ [])
    ≡ Err Damaged ∷ Err Damaged ∷ Err Damaged ∷ Err Damaged ∷ Err Damaged ∷ Err Damaged ∷ []
unfolding line ascii line_of line_by text_of complete_text said_number said_of held_value offset_text number_text number_of offset_of is_void is_text starts_with value_of after_digits digits_of drop_blanks digit_value is_digit is_blank without_return has_return
damaged = refl

-- at the end, at the start, within, and alone
returns : returned "12" "" ∷ returned "" "12" ∷ returned "#" "#" ∷ returned "" "" ∷ returned "# complete: 2 offsets" "" ∷ []
    ≡ Ok (Item 12) ∷ Err CarriageReturn ∷ Err CarriageReturn ∷ Ok Blank ∷ Ok (Says 2) ∷ []
unfolding returned ascii line_of line_by text_of complete_text said_number said_of held_value offset_text number_text number_of offset_of is_void is_text starts_with value_of after_digits digits_of drop_blanks digit_value is_digit is_blank without_return has_return
returns = refl
