-- Low masks, and the counts and ends of a word, computed from the definitions. Assumes nothing.
use Rattle.std.proofs.Common.{◌≡◌, [], ◌∷◌, map, refl}
use Rattle.word_bits.specs.Digits.{digit, number}
use Rattle.word_bits.specs.Counts.{count, zeros_above, zeros_below}
use Rattle.word_bits.specs.LowMask.{low_mask}

low_masks : map low_mask (0 ∷ 1 ∷ 63 ∷ 64 ∷ 65 ∷ []) ≡ 0 ∷ 1 ∷ 0x7FFFFFFFFFFFFFFF ∷ 0xFFFFFFFFFFFFFFFF ∷ 0xFFFFFFFFFFFFFFFF ∷ []
unfolding low_mask number
low_masks = refl

ends_of_0 : zeros_below 64 (digit 0) ∷ zeros_above 64 (digit 0) ∷ [] ≡ 64 ∷ 64 ∷ []
unfolding digit zeros_below zeros_above
ends_of_0 = refl

counts_of_12 : count 64 (digit 12) ∷ zeros_below 64 (digit 12) ∷ zeros_above 64 (digit 12) ∷ [] ≡ 2 ∷ 2 ∷ 60 ∷ []
unfolding digit count zeros_below zeros_above
counts_of_12 = refl
