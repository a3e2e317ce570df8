-- What a range covers, and which words it meets. Assumes nothing.
use mathlib.Core.Path.{◌≡◌, sym, ap, ap₂, ◌∙◌}
use mathlib.Core.Bool.{Bool, true, false, cond, ◌&&◌, and-false}
use mathlib.Core.Logic.{◌⊎◌, inl, inr}
use Prim.Native.Nat.{ℕ, ◌+◌, ◌-◌, ◌/◌, ◌≤◌, ◌<◌}
use native.Mathlib.Nat.{not-le_of_lt}
use native.Mathlib.Omega.{arith}
use borrow.Author.Tests.{lt-ltb, le-ltb, le-leb, lt-leb}
use lib.Dec.{leb, ltb}
use Rattle.word_bits.proofs.Order.{lt-or-le}
use Rattle.masks.specs.Ranges.{covers, end_block}

-- ---- positions

pub covers-yes : (start end p : ℕ) → start ≤ p → p < end → covers start end p ≡ true
unfolding covers
covers-yes start end p a b = ap₂ ◌&&◌ (le-leb start p a) (lt-ltb p end b)

pub covers_below : (start end p : ℕ) → p < start → covers start end p ≡ false
unfolding covers
covers_below start end p a = ap (λ (t : Bool). t && ltb p end) (lt-leb start p a)

pub covers_above : (start end p : ℕ) → end ≤ p → covers start end p ≡ false
unfolding covers
covers_above start end p a = ap (λ (t : Bool). leb start p && t) (le-ltb p end a) ∙ and-false (leb start p)

-- two ranges from one start agree at p where p is below both ends or neither
pub covers_agree : (start e₁ e₂ p : ℕ) → (start ≤ p → p < e₁ → p < e₂) → (start ≤ p → p < e₂ → p < e₁) → covers start e₁ p ≡ covers start e₂ p
covers_agree start e₁ e₂ p a b = go (lt-or-le p start) (lt-or-le p e₁) (lt-or-le p e₂)
  where
    go : (p < start) ⊎ (start ≤ p) → (p < e₁) ⊎ (e₁ ≤ p) → (p < e₂) ⊎ (e₂ ≤ p) → covers start e₁ p ≡ covers start e₂ p
    go (inl l) u v = covers_below start e₁ p l ∙ sym (covers_below start e₂ p l)
    go (inr g) (inl l) v = covers-yes start e₁ p g l ∙ sym (covers-yes start e₂ p g (a g l))
    go (inr g) (inr m) (inl l) = absurd (not-le_of_lt (b g l) m)
    go (inr g) (inr m) (inr n) = covers_above start e₁ p m ∙ sym (covers_above start e₂ p n)

-- ---- words

pub end_block_lem : (start end : ℕ) → start < end → end_block start end ≡ (end - 1) / 64 + 1
unfolding end_block
end_block_lem start end h = ap (λ (t : Bool). cond t ((end - 1) / 64 + 1) (start / 64)) (lt-ltb start end h)

pub end_block_empty : (start end : ℕ) → end ≤ start → end_block start end ≡ start / 64
unfolding end_block
end_block_empty start end h = ap (λ (t : Bool). cond t ((end - 1) / 64 + 1) (start / 64)) (le-ltb start end h)

-- the words met by a range within a length are words of that length
pub end_block_le : (start end len : ℕ) → start ≤ end → end ≤ len → end_block start end ≤ (len + 63) / 64
end_block_le start end len a b = go (lt-or-le start end)
  where
    go : (start < end) ⊎ (end ≤ start) → end_block start end ≤ (len + 63) / 64
    go (inl l) = rw (end_block_lem start end l) (omega arith)
    go (inr g) = rw (end_block_empty start end g) (omega arith)
