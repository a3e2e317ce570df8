-- The masks of the first and the last word that a range meets, as shifts of all ones make them. Assumes nothing.
use mathlib.Core.Path.{◌≡◌, sym, ap, ap₂, ◌∙◌}
use Prim.Native.Nat.{ℕ, ◌-◌, ◌*◌, ◌/◌, ◌%◌, ◌^◌, ◌<◌}
use native.Mathlib.Nat.{mod-eq_of_lt}
use native.Mathlib.Omega.{arith}
use lib.Bits.{bit_and, and_comm, and_mask}
use lib.Pow.{ones_sub-lt}
use Rattle.word_bits.specs.Digits.{number}
use Rattle.word_bits.specs.LowMask.{low_mask}
use Rattle.word_bits.proofs.LowMasks.{low_mask_lt, low_mask_full}
use Rattle.word_bits.proofs.ShiftMasks.{shifted_up, shifted_down}
use Rattle.masks.specs.RangeMasks.{range_mask}
use Rattle.masks.proofs.MaskLaws.{mask_is}

-- a word stays as it is under all ones
under_ones : (x : ℕ) → x < 2 ^ 64 → x ≡ bit_and x (2 ^ 64 - 1)
under_ones x h = sym (and_mask x 64 ∙ mod-eq_of_lt h)

module _ (start end : ℕ) where
  -- the bits from the start up in its word, and those below the end in the word of the position before it
  abbrev pub from_start : ℕ
  from_start = ((2 ^ 64 - 1) * 2 ^ (start % 64)) % 2 ^ 64

  abbrev pub upto_end : ℕ
  upto_end = (2 ^ 64 - 1) / 2 ^ (63 - (end - 1) % 64)

  from_start_is : from_start ≡ (2 ^ 64 - 1) - low_mask (start - start / 64 * 64)
  from_start_is =
      let e : start % 64 ≡ start - start / 64 * 64 = omega arith in
      shifted_up (start % 64) (omega arith) ∙ ap (λ (r : ℕ). (2 ^ 64 - 1) - low_mask r) e

  upto_end_is : 0 < end → upto_end ≡ low_mask (end - (end - 1) / 64 * 64)
  upto_end_is h =
      let e : 64 - (63 - (end - 1) % 64) ≡ end - (end - 1) / 64 * 64 = omega arith in
      shifted_down (63 - (end - 1) % 64) (omega arith) ∙ ap low_mask e

  -- the first of several words, the last of them, and the only one
  pub first_mask : start / 64 < (end - 1) / 64 → from_start ≡ range_mask start end (start / 64)
  unfolding low_mask number
  first_mask h =
      let k = start / 64 in
      let x : ℕ = (2 ^ 64 - 1) - low_mask (start - k * 64) in
      from_start_is ∙ under_ones x (ones_sub-lt 64 (low_mask (start - k * 64))) ∙ and_comm x (2 ^ 64 - 1)
      ∙ ap (λ (m : ℕ). bit_and m x) (sym (low_mask_full (end - k * 64) (omega arith))) ∙ mask_is start end k

  pub last_mask : start / 64 < (end - 1) / 64 → upto_end ≡ range_mask start end ((end - 1) / 64)
  unfolding low_mask number
  last_mask h =
      let k = (end - 1) / 64 in
      let x : ℕ = low_mask (end - k * 64) in
      let e : 0 ≡ start - k * 64 = omega arith in
      upto_end_is (omega arith) ∙ under_ones x (low_mask_lt (end - k * 64))
      ∙ ap (λ (r : ℕ). bit_and x ((2 ^ 64 - 1) - low_mask r)) e ∙ mask_is start end k

  pub only_mask : start < end → start / 64 ≡ (end - 1) / 64 → bit_and upto_end from_start ≡ range_mask start end (start / 64)
  only_mask l e =
      ap₂ bit_and (upto_end_is (omega arith) ∙ ap (λ (k : ℕ). low_mask (end - k * 64)) (sym e)) from_start_is ∙ mask_is start end (start / 64)
