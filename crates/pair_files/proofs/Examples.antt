-- Files computed from the definition. Assumes nothing.
use mathlib.Core.Path.{◌≡◌, refl}
use mathlib.Core.List.{List, [], ◌∷◌, ◌++◌, map}
use Prim.Native.Nat.{ℕ}
use Prim.Native.String.{String}
use Rattle.byte_texts.specs.Ascii.{ascii}
use Rattle.byte_texts.specs.Texts.{decimal_of, visible, dots, shown_text}
use Rattle.offset_lines.specs.Lines.{is_blank, is_digit, digit_value, drop_blanks, digits_of, after_digits, value_of, starts_with, is_text, is_void, fault_text, held_value, said_of, said_number, complete_text, text_of, without_return, has_return, line_by}
use Rattle.text_lines.specs.Texts.{more, body_of, take_byte, take_bytes, at_end}
use Rattle.text_lines.specs.Messages.{bad_text}
use Rattle.offset_lines.specs.Numbers.{base_of, bare_of, size_of, number_of, after_number}
use Rattle.pair_lines.specs.Lines.{pair_of, second_of, pair_text, pair_line_of}
use Rattle.pair_files.specs.Messages.{named_text, beyond_text, named_fault, beyond_fault, faults_text, wrong_count}
use Rattle.pair_files.specs.Files.{PairFile, blank_line, bad, bad_line, with_word, named, accepted, pair_line, said_line, entry_line, no_text, take_pair, pair_file_of}

-- a file of pairs into a length of 64
file : String → PairFile
file text = pair_file_of (ascii "p.txt") 64 (ascii text)

-- the numbers of a file: lines, pairs and bad lines
counts : PairFile → List ℕ
counts f = f.lines ∷ f.pairs ∷ f.bads ∷ []

-- a list, a last line without a line feed, a wrong number, and a pair behind the last line
numbers : map counts (file "5 40\n7 0x2\n# complete: 2 pairs\n" ∷ file "5 40\n7 2" ∷ file "5 40\n# complete: 2 pairs\n" ∷ file "# complete: 0 pairs\n1 1\n" ∷ [])
    ≡ (3 ∷ 2 ∷ 0 ∷ []) ∷ (2 ∷ 2 ∷ 0 ∷ []) ∷ (2 ∷ 1 ∷ 1 ∷ []) ∷ (2 ∷ 0 ∷ 1 ∷ []) ∷ []
unfolding file counts ascii pair_file_of take_pair entry_line said_line pair_line accepted named with_word bad bad_line blank_line faults_text beyond_fault named_fault beyond_text named_text wrong_count bad_text shown_text dots visible decimal_of at_end take_bytes take_byte body_of more pair_line_of line_by text_of complete_text fault_text held_value pair_text second_of pair_of after_number number_of size_of bare_of base_of said_number said_of is_void is_text starts_with value_of after_digits digits_of drop_blanks digit_value is_digit is_blank without_return has_return
numbers = refl

-- the words of the tables, and the pairs
words : (file "5 40\n7 2\n").to 7 ∷ (file "5 40\n7 2\n").to 2 ∷ (file "5 40\n7 2\n").from 2 ∷ [] ≡ 131074 ∷ 0 ∷ 131079 ∷ []
unfolding file counts ascii pair_file_of take_pair entry_line said_line pair_line accepted named with_word bad bad_line blank_line faults_text beyond_fault named_fault beyond_text named_text wrong_count bad_text shown_text dots visible decimal_of at_end take_bytes take_byte body_of more pair_line_of line_by text_of complete_text fault_text held_value pair_text second_of pair_of after_number number_of size_of bare_of base_of said_number said_of is_void is_text starts_with value_of after_digits digits_of drop_blanks digit_value is_digit is_blank without_return has_return
words = refl

pairs : (file "5 40\n5 2\n7 2\n").list ≡ record { old = 5; new = 40 } ∷ []
unfolding file counts ascii pair_file_of take_pair entry_line said_line pair_line accepted named with_word bad bad_line blank_line faults_text beyond_fault named_fault beyond_text named_text wrong_count bad_text shown_text dots visible decimal_of at_end take_bytes take_byte body_of more pair_line_of line_by text_of complete_text fault_text held_value pair_text second_of pair_of after_number number_of size_of bare_of base_of said_number said_of is_void is_text starts_with value_of after_digits digits_of drop_blanks digit_value is_digit is_blank without_return has_return
pairs = refl

-- 10, 11 and 4, and a side that a bad line named first
faults : (file "12 40\n12 40\n").report ∷ (file "1 70\n1 70\n").report ∷ (file "5 40\n5 2\n7 2\n").report ∷ []
    ≡ (ascii "ERROR: p.txt, line 2: old offset 12 was named on line 1\n" ++ ascii "ERROR: p.txt, line 2: new offset 40 was named on line 1\n")
    ∷ (ascii "ERROR: p.txt, line 1: new offset 70 is not below the length 64\n" ++ ascii "ERROR: p.txt, line 2: old offset 1 was named on line 1\n"
    ++ ascii "ERROR: p.txt, line 2: new offset 70 was named on line 1\n" ++ ascii "ERROR: p.txt, line 2: new offset 70 is not below the length 64\n")
    ∷ (ascii "ERROR: p.txt, line 2: old offset 5 was named on line 1\n" ++ ascii "ERROR: p.txt, line 3: new offset 2 was named on line 2\n") ∷ []
unfolding file counts ascii pair_file_of take_pair entry_line said_line pair_line accepted named with_word bad bad_line blank_line faults_text beyond_fault named_fault beyond_text named_text wrong_count bad_text shown_text dots visible decimal_of at_end take_bytes take_byte body_of more pair_line_of line_by text_of complete_text fault_text held_value pair_text second_of pair_of after_number number_of size_of bare_of base_of said_number said_of is_void is_text starts_with value_of after_digits digits_of drop_blanks digit_value is_digit is_blank without_return has_return
faults = refl

-- other bad lines
lines : (file "12\n").report ∷ (file "1 1\n# complete: 2 pairs\n").report ∷ (file "# complete: 0 pairs\n1 1\n").report ∷ []
    ≡ ascii "ERROR: p.txt, line 1: not two numbers: 12\n" ∷ ascii "ERROR: p.txt, line 2: says 2 pairs and names 1: # complete: 2 pairs\n"
    ∷ ascii "ERROR: p.txt, line 2: a pair behind the last line of a list: 1 1\n" ∷ []
unfolding file counts ascii pair_file_of take_pair entry_line said_line pair_line accepted named with_word bad bad_line blank_line faults_text beyond_fault named_fault beyond_text named_text wrong_count bad_text shown_text dots visible decimal_of at_end take_bytes take_byte body_of more pair_line_of line_by text_of complete_text fault_text held_value pair_text second_of pair_of after_number number_of size_of bare_of base_of said_number said_of is_void is_text starts_with value_of after_digits digits_of drop_blanks digit_value is_digit is_blank without_return has_return
lines = refl

-- a byte order mark and carriage returns at the ends of lines
windows : counts (pair_file_of (ascii "p.txt") 64 (239 ∷ 187 ∷ 191 ∷ ascii "5 40 # c" ++ 13 ∷ 10 ∷ ascii "# complete: 1 pair" ++ 13 ∷ 10 ∷ [])) ≡ 2 ∷ 1 ∷ 0 ∷ []
unfolding file counts ascii pair_file_of take_pair entry_line said_line pair_line accepted named with_word bad bad_line blank_line faults_text beyond_fault named_fault beyond_text named_text wrong_count bad_text shown_text dots visible decimal_of at_end take_bytes take_byte body_of more pair_line_of line_by text_of complete_text fault_text held_value pair_text second_of pair_of after_number number_of size_of bare_of base_of said_number said_of is_void is_text starts_with value_of after_digits digits_of drop_blanks digit_value is_digit is_blank without_return has_return
windows = refl

-- the same text in two pieces
pieces : (take_bytes (take_pair (ascii "p.txt") 64) (take_bytes (take_pair (ascii "p.txt") 64) no_text (ascii "5 4")) (ascii "0\n7 2")).rest ≡ ascii "7 2"
unfolding file counts ascii pair_file_of take_pair entry_line said_line pair_line accepted named with_word bad bad_line blank_line faults_text beyond_fault named_fault beyond_text named_text wrong_count bad_text shown_text dots visible decimal_of at_end take_bytes take_byte body_of more pair_line_of line_by text_of complete_text fault_text held_value pair_text second_of pair_of after_number number_of size_of bare_of base_of said_number said_of is_void is_text starts_with value_of after_digits digits_of drop_blanks digit_value is_digit is_blank without_return has_return
pieces = refl
