-- Files computed from the definition. Assumes nothing.
use mathlib.Core.Path.{◌≡◌, refl}
use mathlib.Core.List.{List, [], ◌∷◌, ◌++◌}
use Prim.Native.Nat.{ℕ}
use Prim.Native.String.{String}
use Rattle.byte_texts.specs.Ascii.{ascii}
use Rattle.byte_texts.specs.Texts.{decimal_of, visible, dots, shown_text}
use Rattle.offset_lines.specs.Lines.{is_blank, is_digit, digit_value, drop_blanks, digits_of, after_digits, value_of, starts_with, is_text, is_void, held_value, fault_text, offset_of, number_of, number_text, offset_text, said_of, said_number, complete_text, text_of, without_return, has_return, line_by, line_of}
use Rattle.text_lines.specs.Texts.{more, body_of, take_byte, take_bytes, at_end}
use Rattle.offset_files.specs.Files.{File, blank_line, bad_line, new_offset, second_naming, offset_line, said_line, entry_line, take_line, file_of}
use Rattle.text_lines.specs.Messages.{bad_text}
use Rattle.offset_files.specs.Messages.{repeat_text, wrong_count}

file : String → File
file text = file_of (ascii "a.txt") (ascii text)

-- the numbers of a file: lines, offsets, bad lines and repeats
counts : File → List ℕ
counts f = f.lines ∷ f.named ∷ f.bads ∷ f.repeats ∷ []

-- a list, a list with a repeat, and a last line without a line feed
good : counts (file "5\n7\n# complete: 2 offsets\n") ∷ counts (file "5\n7\n5\n5\n") ∷ counts (file "5\n7") ∷ [] ≡ (3 ∷ 2 ∷ 0 ∷ 0 ∷ []) ∷ (4 ∷ 2 ∷ 0 ∷ 1 ∷ []) ∷ (2 ∷ 2 ∷ 0 ∷ 0 ∷ []) ∷ []
unfolding file counts ascii file_of take_bytes take_byte take_line at_end body_of entry_line offset_line said_line blank_line bad_line new_offset second_naming more bad_text repeat_text wrong_count decimal_of visible dots shown_text line_of line_by text_of complete_text said_number said_of held_value fault_text offset_text number_text number_of offset_of is_void is_text starts_with value_of after_digits digits_of drop_blanks digit_value is_digit is_blank without_return has_return
good = refl

-- the first line that names an offset
first-lines : (file "5\n7\n5\n").first 5 ∷ (file "5\n7\n5\n").first 7 ∷ (file "5\n7\n5\n").first 6 ∷ [] ≡ 1 ∷ 2 ∷ 0 ∷ []
unfolding file ascii file_of take_bytes take_byte take_line at_end body_of entry_line offset_line said_line blank_line bad_line new_offset second_naming more line_of line_by text_of complete_text said_number said_of held_value fault_text offset_text number_text number_of offset_of is_void is_text starts_with value_of after_digits digits_of drop_blanks digit_value is_digit is_blank without_return has_return
first-lines = refl

repeated : (file "5\n7\n5\n").report ≡ ascii "warning: a.txt, line 3: offset 5 was named on line 1\n"
unfolding file ascii file_of take_bytes take_byte take_line at_end body_of entry_line offset_line said_line blank_line bad_line new_offset second_naming more bad_text repeat_text wrong_count decimal_of visible dots shown_text line_of line_by text_of complete_text said_number said_of held_value fault_text offset_text number_text number_of offset_of is_void is_text starts_with value_of after_digits digits_of drop_blanks digit_value is_digit is_blank without_return has_return
repeated = refl

-- no number, a list with an offset missing, and an offset behind its last line
bad : (file "5\nx\n# complete: 2 offsets\n8").report
    ≡ ascii "ERROR: a.txt, line 2: not a number: x\n" ++ ascii "ERROR: a.txt, line 3: says 2 offsets and names 1: # complete: 2 offsets\n" ++ ascii "ERROR: a.txt, line 4: an offset behind the last line of a list: 8\n"
unfolding file ascii file_of take_bytes take_byte take_line at_end body_of entry_line offset_line said_line blank_line bad_line new_offset second_naming more bad_text repeat_text wrong_count decimal_of visible dots shown_text line_of line_by text_of complete_text said_number said_of held_value fault_text offset_text number_text number_of offset_of is_void is_text starts_with value_of after_digits digits_of drop_blanks digit_value is_digit is_blank without_return has_return
bad = refl

-- a byte order mark is skipped on line 1 and on no other
marked : counts (file_of [] (239 ∷ 187 ∷ 191 ∷ ascii "5\n")) ∷ counts (file_of [] (ascii "5\n" ++ (239 ∷ 187 ∷ 191 ∷ ascii "7\n"))) ∷ [] ≡ (1 ∷ 1 ∷ 0 ∷ 0 ∷ []) ∷ (2 ∷ 1 ∷ 1 ∷ 0 ∷ []) ∷ []
unfolding counts ascii file_of take_bytes take_byte take_line at_end body_of entry_line offset_line said_line blank_line bad_line new_offset second_naming more line_of line_by text_of complete_text said_number said_of held_value fault_text offset_text number_text number_of offset_of is_void is_text starts_with value_of after_digits digits_of drop_blanks digit_value is_digit is_blank without_return has_return
marked = refl
