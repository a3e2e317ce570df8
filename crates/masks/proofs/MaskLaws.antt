-- The mask of a word: its digits, and where it is 0 or all ones. Assumes nothing.
use mathlib.Core.Path.{◌≡◌, sym, ap, ap₂, ◌∙◌}
use mathlib.Core.Bool.{false, not, ◌&&◌, and_comm}
use mathlib.Core.Logic.{◌⊎◌, inl, inr}
use Prim.Native.Nat.{ℕ, ◌+◌, ◌-◌, ◌*◌, ◌/◌, ◌^◌, ◌≤◌, ◌<◌}
use native.Mathlib.Omega.{arith}
use borrow.Author.Tests.{lt-ltb, le-ltb, le-leb, lt-leb}
use lib.Bits.{bit_and, and_lt}
use lib.Dec.{leb, ltb, lit<}
use lib.Pow.{ones_sub-lt}
use Rattle.word_bits.specs.LowMask.{low_mask}
use Rattle.word_bits.proofs.Digits.{digit_of_zero, word_is}
use Rattle.word_bits.proofs.LowMasks.{digit-low_mask, digit_high_mask, low_mask_lt}
use Rattle.word_bits.proofs.Operations.{digit_and, digit_not}
use Rattle.word_bits.proofs.Order.{lt-or-le}
use Rattle.masks.specs.Ranges.{covers, end_block}
use Rattle.masks.specs.RangeMasks.{range_mask, masks_of}
use Rattle.masks.proofs.RangeLaws.{covers-yes, covers_below, covers_above, end_block_lem, end_block_empty}

-- ---- from two low masks

below_end : (e b j : ℕ) → ltb j (e - b) ≡ ltb (b + j) e
below_end e b j = go (lt-or-le (b + j) e)
  where
    go : (b + j < e) ⊎ (e ≤ b + j) → ltb j (e - b) ≡ ltb (b + j) e
    go (inl h) = lt-ltb j (e - b) (omega arith) ∙ sym (lt-ltb (b + j) e h)
    go (inr h) = le-ltb j (e - b) (omega arith) ∙ sym (le-ltb (b + j) e h)

from_start : (s b j : ℕ) → not (ltb j (s - b)) ≡ leb s (b + j)
from_start s b j = go (lt-or-le (b + j) s)
  where
    go : (b + j < s) ⊎ (s ≤ b + j) → not (ltb j (s - b)) ≡ leb s (b + j)
    go (inl h) = ap not (lt-ltb j (s - b) (omega arith)) ∙ sym (lt-leb s (b + j) h)
    go (inr h) = ap not (le-ltb j (s - b) (omega arith)) ∙ sym (le-leb s (b + j) h)

pub mask_is : (start end k : ℕ) → bit_and (low_mask (end - k * 64)) ((2 ^ 64 - 1) - low_mask (start - k * 64)) ≡ range_mask start end k
unfolding covers
mask_is start end k =
    word_is (covers start end) k (bit_and (low_mask (end - k * 64)) ((2 ^ 64 - 1) - low_mask (start - k * 64)))
    (and_lt 64 (low_mask (end - k * 64)) ((2 ^ 64 - 1) - low_mask (start - k * 64)) (low_mask_lt (end - k * 64)) (ones_sub-lt 64 (low_mask (start - k * 64))))
    (λ j h.
    digit_and (low_mask (end - k * 64)) ((2 ^ 64 - 1) - low_mask (start - k * 64)) j
    ∙ ap₂ ◌&&◌ (digit-low_mask (end - k * 64) j h ∙ below_end end (k * 64) j) (digit_high_mask (start - k * 64) j h ∙ from_start start (k * 64) j)
    ∙ and_comm (ltb (k * 64 + j) end) (leb start (k * 64 + j)))

-- ---- where it is 0, and where it is all ones

module _ (start end k : ℕ) where
  zero_mask : ((j : ℕ) → j < 64 → covers start end (k * 64 + j) ≡ false) → range_mask start end k ≡ 0
  zero_mask h = sym (word_is (covers start end) k 0 (lit< tt) (λ j l. digit_of_zero j ∙ sym (h j l)))

  pub mask_before : k < start / 64 → range_mask start end k ≡ 0
  mask_before h = zero_mask (λ j l. covers_below start end (k * 64 + j) (omega arith))

  pub mask_after : end ≤ k * 64 → range_mask start end k ≡ 0
  mask_after h = zero_mask (λ j l. covers_above start end (k * 64 + j) (omega arith))

  pub mask_empty : end ≤ start → range_mask start end k ≡ 0
  mask_empty h = zero_mask (λ j l. go (k * 64 + j) (lt-or-le (k * 64 + j) start))
    where
      go : (p : ℕ) → (p < start) ⊎ (start ≤ p) → covers start end p ≡ false
      go p (inl a) = covers_below start end p a
      go p (inr b) = covers_above start end p (omega arith)

  -- a word from the end of those that the range meets
  pub mask_beyond : end_block start end ≤ k → range_mask start end k ≡ 0
  mask_beyond h = go (lt-or-le start end)
    where
      go : (start < end) ⊎ (end ≤ start) → range_mask start end k ≡ 0
      go (inl l) = let e = end_block_lem start end l in mask_after (omega arith)
      go (inr g) = mask_empty g

  -- a word strictly between the first and the last that the range meets
  pub mask_whole : start / 64 < k → k + 1 < end_block start end → range_mask start end k ≡ 2 ^ 64 - 1
  mask_whole a b = go (lt-or-le start end)
    where
      go : (start < end) ⊎ (end ≤ start) → range_mask start end k ≡ 2 ^ 64 - 1
      go (inl l) =
          let e = end_block_lem start end l in
          sym (word_is (covers start end) k (2 ^ 64 - 1) (lit< tt)
          (λ j h. digit_not 64 0 j (lit< tt) h ∙ ap not (digit_of_zero j)
          ∙ sym (covers-yes start end (k * 64 + j) (omega arith) (omega arith))))
      go (inr g) = absurd (omega (arith, end_block_empty start end g))

-- ---- the masks of a range, where it covers no position and where it covers some

pub masks_empty : (start end : ℕ) → end ≤ start
    → record { first_block = start / 64; end_block = start / 64; first_mask = 0; last_mask = 0 } ≡ masks_of start end
masks_empty start end h =
    rw (mask_empty start end (start / 64), mask_empty start end (end_block start end - 1), end_block_empty start end)

pub masks_some : (start end : ℕ) {f l : ℕ} → start < end → f ≡ range_mask start end (start / 64) → l ≡ range_mask start end ((end - 1) / 64)
    → record { first_block = start / 64; end_block = (end - 1) / 64 + 1; first_mask = f; last_mask = l } ≡ masks_of start end
masks_some start end h p q =
    let last : (end - 1) / 64 ≡ (end - 1) / 64 + 1 - 1 = omega arith in
    rw (end_block_lem start end, ← last, p, q)
