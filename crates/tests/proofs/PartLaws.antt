-- The part of a row that a range covers, and a word under the mask of the range. Assumes nothing.
use mathlib.Core.Path.{◌≡◌, ap, ap₂, ◌∙◌}
use mathlib.Core.Bool.{Bool, false, ◌&&◌, and_comm}
use mathlib.Core.Logic.{◌⊎◌, inl, inr}
use Prim.Native.Nat.{ℕ, ◌+◌, ◌*◌, ◌/◌, ◌≤◌, ◌<◌}
use native.Mathlib.Omega.{arith}
use lib.Bits.{bit_and}
use Rattle.word_bits.specs.Digits.{digit}
use Rattle.word_bits.proofs.Digits.{digit_word}
use Rattle.word_bits.proofs.Operations.{digit_and}
use Rattle.word_bits.proofs.Order.{lt-or-le}
use Rattle.masks.specs.Ranges.{covers, end_block}
use Rattle.masks.specs.RangeMasks.{range_mask}
use Rattle.masks.proofs.RangeLaws.{covers-yes, covers_below, covers_above, end_block_lem, end_block_empty}

-- a range that meets a word ends in the last word that it meets
pub record Meets (start end : ℕ) : Type 0 where
  pub some : start < end
  pub stop : end ≤ end_block start end * 64
  pub tight : end_block start end * 64 < end + 64

pub meets : (start end : ℕ) → start / 64 < end_block start end → Meets start end
meets start end h = go (lt-or-le start end)
  where
    go : (start < end) ⊎ (end ≤ start) → Meets start end
    go (inl l) = let e = end_block_lem start end l in record { some = l; stop = omega arith; tight = omega arith }
    go (inr g) = absurd (omega (arith, end_block_empty start end g))

abbrev pub in_range : ℕ → ℕ → (ℕ → Bool) → ℕ → Bool
in_range start end f p = covers start end p && f p

module _ (start end : ℕ) (f : ℕ → Bool) where
  pub part_below : (p : ℕ) → p < start → in_range start end f p ≡ false
  part_below p h = ap (λ (t : Bool). t && f p) (covers_below start end p h)

  pub part_above : (p : ℕ) → end ≤ p → in_range start end f p ≡ false
  part_above p h = ap (λ (t : Bool). t && f p) (covers_above start end p h)

  pub part_inside : (p : ℕ) → start ≤ p → p < end → in_range start end f p ≡ f p
  part_inside p a b = ap (λ (t : Bool). t && f p) (covers-yes start end p a b)

-- word k of the row, under the mask
module _ (start end k w : ℕ) (f : ℕ → Bool) (same : (j : ℕ) → j < 64 → digit w j ≡ f (k * 64 + j)) where
  pub masked_digit : (j : ℕ) → j < 64 → digit (bit_and w (range_mask start end k)) j ≡ in_range start end f (k * 64 + j)
  masked_digit j l =
      digit_and w (range_mask start end k) j ∙ ap₂ ◌&&◌ (same j l) (digit_word (covers start end) k j l)
      ∙ and_comm (f (k * 64 + j)) (covers start end (k * 64 + j))
