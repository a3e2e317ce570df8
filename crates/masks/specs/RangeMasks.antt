-- The mask of each word that a range meets.
use Rattle.std.specs.Prelude.{ℕ, ◌-◌, ◌/◌}
use Rattle.word_bits.specs.Digits.{word_of}
use Rattle.masks.specs.Ranges.{covers, end_block}
use Rattle.masks.specs.declared.range_masks.Masks.{Masks}

-- digit j of the mask of word k is set exactly where the range covers position 64 k + j
abbrev pub range_mask : ℕ → ℕ → ℕ → ℕ
range_mask start end k = word_of (covers start end) k

-- the words that the range meets, and the masks of the first and the last of them
abbrev pub masks_of : ℕ → ℕ → Masks
masks_of start end = record {
  first_block = start / 64;
  end_block = end_block start end;
  first_mask = range_mask start end (start / 64);
  last_mask = range_mask start end (end_block start end - 1);
}
