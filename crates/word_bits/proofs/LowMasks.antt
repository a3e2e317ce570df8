-- The digits of a low mask and of its complement. Assumes nothing.
use Rattle.std.proofs.Common.{◌≡◌, ℕ, ◌-◌, ◌^◌, ◌<◌, ◌≤◌, not, ltb, sym, ap, ◌∙◌, arith, lt-ltb}
use Rattle.word_bits.specs.Digits.{digit}
use Rattle.word_bits.specs.LowMask.{low_mask}
use Rattle.word_bits.proofs.Digits.{digit-number, number_ext, number_lt}
use Rattle.word_bits.proofs.Operations.{digit_not}

pub low_mask_lt : (r : ℕ) → low_mask r < 2 ^ 64
unfolding low_mask
low_mask_lt r = number_lt 64 (λ j. ltb j r)

pub digit-low_mask : (r j : ℕ) → j < 64 → digit (low_mask r) j ≡ ltb j r
unfolding low_mask
digit-low_mask r j h = digit-number 64 (λ i. ltb i r) j h

pub digit_high_mask : (r j : ℕ) → j < 64 → digit ((2 ^ 64 - 1) - low_mask r) j ≡ not (ltb j r)
digit_high_mask r j h = digit_not 64 (low_mask r) j (low_mask_lt r) h ∙ ap not (digit-low_mask r j h)

-- from 64 up every bit is set
pub low_mask_full : (r : ℕ) → 64 ≤ r → low_mask r ≡ low_mask 64
unfolding low_mask
low_mask_full r h = number_ext 64 (λ j. ltb j r) (λ j. ltb j 64) (λ j l. lt-ltb j r (omega arith) ∙ sym (lt-ltb j 64 l))
