-- Ranges at their edges, computed from the definitions. Assumes nothing.
use mathlib.Core.Path.{◌≡◌, refl}
use mathlib.Core.List.{[], ◌∷◌}
use Rattle.word_bits.specs.Digits.{word_of, number}
use Rattle.masks.specs.Ranges.{covers, end_block}
use Rattle.masks.specs.RangeMasks.{range_mask, masks_of}

-- 64..64 meets no word
nothing_met : masks_of 64 64 ≡ record { first_block = 1; end_block = 1; first_mask = 0; last_mask = 0 }
unfolding word_of number covers end_block
nothing_met = refl

-- the words of 60..70
two-words : masks_of 60 70 ≡ record { first_block = 0; end_block = 2; first_mask = 0xF000000000000000; last_mask = 0x3F }
unfolding word_of number covers end_block
two-words = refl

-- an end that is a multiple of 64, an inverted range, and a word past every position
edges : range_mask 0 64 0 ∷ range_mask 9 3 0 ∷ range_mask 0 0xFFFFFFFFFFFFFFFF 0x0400000000000000 ∷ [] ≡ 0xFFFFFFFFFFFFFFFF ∷ 0 ∷ 0 ∷ []
unfolding word_of number covers
edges = refl
