-- Pairs as the tool moves and writes them, worked out. Assumes nothing.
use mathlib.Core.Path.{◌≡◌, refl}
use mathlib.Core.Bool.{true, false, ◌||◌}
use mathlib.Core.List.{[], ◌∷◌}
use Prim.Native.Nat.{ℕ, ◌+◌, ◌*◌}
use lib.Dec.{eqb}
use Rattle.word_bits.specs.Counts.{some, count, zeros_below}
use Rattle.sets.specs.Members.{Members}
use Rattle.std.specs.Prelude.{Some, None}
use Rattle.parts.specs.Steps.{front}
use Rattle.two_set_counts.specs.Lists.{positions}
use Rattle.byte_texts.specs.Ascii.{ascii}
use Rattle.byte_texts.specs.Texts.{decimal_of}
use Rattle.listing_lines.specs.Lines.{place_text, count_text}
use Rattle.pair_listings.specs.Tables.{entry_of, is_named, partner, moves_to, moved_below, moved_by, named_below, named_by, is_unpaired, unpaired_from, unpaired_count}
use Rattle.pair_listings.specs.Lines.{pair_text, pair_lines_text, pairs_complete_text, unpaired_text}
use Rattle.pair_listings.specs.Pages.{last_text, pairs_text}

-- offsets 0, 2 and 3 of 4; line 1 pairs 0 with 65,535, line 2 pairs 2 with 0, line 3 pairs 1 with 5, and no line names 3
olds : Members
olds = record { len = 4; has = λ p. eqb p 0 || (eqb p 2 || eqb p 3) }

table : ℕ → ℕ
table = entry_of ((1 * 65536 + 65535) ∷ (3 * 65536 + 5) ∷ (2 * 65536 + 0) ∷ 0 ∷ [])

-- 65,535 and 0 are the new offsets; 5 is not, since 1 is no member
moved_last : (moved_by table olds).has 65535 ≡ true
unfolding olds table moved_below some moves_to is_named partner
moved_last = refl

moved-first : (moved_by table olds).has 0 ≡ true
unfolding olds table moved_below some moves_to is_named partner
moved-first = refl

not-moved : (moved_by table olds).has 5 ≡ false
unfolding olds table moved_below some moves_to is_named partner
not-moved = refl

named : (named_by table).has 1 ≡ true
unfolding table named_below is_named
named = refl

not_named : (named_by table).has 3 ≡ false
unfolding table named_below is_named
not_named = refl

-- 3 has no pair, and nothing from 4 on
unpaired_3 : unpaired_from table olds 0 ≡ Some 3
unfolding olds table is_unpaired is_named front zeros_below
unpaired_3 = refl

unpaired_none : unpaired_from table olds 4 ≡ None
unfolding olds table is_unpaired is_named front zeros_below
unpaired_none = refl

unpaired_one : unpaired_count table olds ≡ 1
unfolding olds table is_unpaired is_named count
unpaired_one = refl

unpaired_says : unpaired_text (ascii "old.txt") 5 12 (ascii "pairs.txt") ≡ ascii "ERROR: old.txt, line 5: offset 12 has no pair in pairs.txt\n"
unfolding unpaired_text decimal_of ascii
unpaired_says = refl

-- all that is written of the members 0 and 2: as a list, on a sheet, and the count alone
two : Members
two = record { len = 4; has = λ p. eqb p 0 || eqb p 2 }

as_list : pairs_text (record { sheet = false; count = false }) table two ≡ ascii "0 65535\n2 0\n# complete: 2 pairs\n"
unfolding two table pairs_text last_text pair_lines_text pair_text pairs_complete_text place_text partner positions decimal_of ascii
as_list = refl

as_sheet : pairs_text (record { sheet = true; count = false }) table two ≡ ascii "1/2 0 65535\n2/2 2 0\n# complete: 2 pairs\n"
unfolding two table pairs_text last_text pair_lines_text pair_text pairs_complete_text place_text partner positions decimal_of ascii
as_sheet = refl

as_count : pairs_text (record { sheet = false; count = true }) table two ≡ ascii "2\n"
unfolding two table pairs_text last_text count_text positions decimal_of ascii
as_count = refl

complete : pairs_complete_text 1 ≡ ascii "# complete: 1 pair\n"
unfolding pairs_complete_text decimal_of ascii
complete = refl
