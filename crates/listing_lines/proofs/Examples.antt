-- Lines as the tool writes them, worked out. Assumes nothing.
use mathlib.Core.Path.{◌≡◌, refl}
use mathlib.Core.Bool.{true, false}
use mathlib.Core.List.{[], ◌∷◌}
use Rattle.byte_texts.specs.Ascii.{ascii}
use Rattle.byte_texts.specs.Texts.{decimal_of}
use Rattle.listing_lines.specs.Lines.{place_text, offset_text, line_text, lines_text, offsets_text, complete_text, same_text, in_text, different_text, table_text, result_text, verdict_text, trouble_text, tables_text}

list_lines : lines_text false false [] [] 2 1 (7 ∷ 65535 ∷ []) ≡ ascii "7\n65535\n"
unfolding lines_text line_text place_text offset_text decimal_of ascii
list_lines = refl

sheet_lines : lines_text true true (ascii "a.txt") (ascii "b.txt") 12 9 (513 ∷ 514 ∷ []) ≡ ascii "9/12 offset 513: in a.txt, not in b.txt\n10/12 offset 514: in a.txt, not in b.txt\n"
unfolding lines_text line_text place_text offset_text decimal_of ascii
sheet_lines = refl

complete : complete_text 1 ≡ ascii "# complete: 1 offset\n"
unfolding complete_text offsets_text decimal_of ascii
complete = refl

same : verdict_text false (ascii "a.txt") (ascii "b.txt") 65536 65536 0 0 ≡ ascii "same: 65536 offsets in each\n"
unfolding verdict_text table_text result_text same_text offsets_text decimal_of ascii
same = refl

different : verdict_text true (ascii "a.txt") (ascii "b.txt") 40 41 1 2 ≡ ascii "b.txt: DIFFERENT: 40 in a.txt, 41 in b.txt; 1 only in a.txt, 2 only in b.txt\n"
unfolding verdict_text table_text result_text different_text in_text decimal_of ascii
different = refl

tables : tables_text 3 1 2 ≡ ascii "6 tables: 3 same, 1 DIFFERENT, 2 not compared\n"
unfolding tables_text trouble_text decimal_of ascii
tables = refl
