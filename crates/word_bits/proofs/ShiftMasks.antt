-- Masks as shifts of all ones make them, and the digits of a word that is shifted down or masked. Assumes nothing.
use Rattle.std.proofs.Common.{◌≡◌, ℕ, ◌+◌, ◌-◌, ◌*◌, ◌/◌, ◌%◌, ◌^◌, ◌<◌, Bool, not, ◌&&◌, eqb, ltb, refl, ap, ◌∙◌, shr-shr, eqb-true}
use lib.Bits.{bit_and}
use Rattle.word_bits.specs.Counts.{all}
use Rattle.word_bits.specs.Digits.{digit, number}
use Rattle.word_bits.specs.LowMask.{low_mask}
use Rattle.word_bits.proofs.LowMasks.{digit_high_mask, digit-low_mask}
use Rattle.word_bits.proofs.Operations.{digit_and}
use Rattle.word_bits.proofs.Quantifiers.{each_of}

-- ---- all ones, shifted: computed for each of the 64 places

pub shifted_up : (r : ℕ) → r < 64 → ((2 ^ 64 - 1) * 2 ^ r) % 2 ^ 64 ≡ (2 ^ 64 - 1) - low_mask r
unfolding all low_mask number
shifted_up r h = eqb-true _ _ (each_of 64 (λ i. eqb (((2 ^ 64 - 1) * 2 ^ i) % 2 ^ 64) ((2 ^ 64 - 1) - low_mask i)) refl r h)

pub shifted_down : (r : ℕ) → r < 64 → (2 ^ 64 - 1) / 2 ^ r ≡ low_mask (64 - r)
unfolding all low_mask number
shifted_down r h = eqb-true _ _ (each_of 64 (λ i. eqb ((2 ^ 64 - 1) / 2 ^ i) (low_mask (64 - i))) refl r h)

-- ---- digits

-- the digits of a word that is shifted down by r are those from r up
pub digit_down : (x r j : ℕ) → digit (x / 2 ^ r) j ≡ digit x (r + j)
unfolding digit
digit_down x r j = ap (λ (y : ℕ). eqb (y % 2) 1) (shr-shr x r j)

-- the digits of a word from r up, and below r
pub digit-from : (x r j : ℕ) → j < 64 → digit (bit_and x ((2 ^ 64 - 1) - low_mask r)) j ≡ (digit x j && not (ltb j r))
digit-from x r j h = digit_and x ((2 ^ 64 - 1) - low_mask r) j ∙ ap (λ (b : Bool). digit x j && b) (digit_high_mask r j h)

pub digit_upto : (x r j : ℕ) → j < 64 → digit (bit_and x (low_mask r)) j ≡ (digit x j && ltb j r)
digit_upto x r j h = digit_and x (low_mask r) j ∙ ap (λ (b : Bool). digit x j && b) (digit-low_mask r j h)
