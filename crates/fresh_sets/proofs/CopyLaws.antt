-- The words of a set copied from blocks. Assumes nothing.
use mathlib.Core.Path.{◌≡◌, sym, ap, ap₂, ◌∙◌}
use mathlib.Core.Bool.{◌&&◌, and_comm}
use mathlib.Core.List.{List}
use mathlib.Core.Logic.{◌⊎◌, inl, inr}
use Prim.Native.Nat.{ℕ, ◌+◌, ◌*◌, ◌/◌, ◌%◌, ◌^◌, ◌≤◌, ◌<◌, min}
use native.Mathlib.Omega.{arith}
use borrow.Author.Tests.{lt-ltb, le-ltb}
use lib.Bits.{bit_and, and_lt}
use lib.Dec.{ltb}
use lib.ListN.{length, get_or, get_or-eq_default}
use Rattle.word_bits.specs.Digits.{digit, word_of}
use Rattle.word_bits.specs.LowMask.{low_mask}
use Rattle.word_bits.proofs.Digits.{word_is}
use Rattle.word_bits.proofs.LowMasks.{digit-low_mask, low_mask_lt}
use Rattle.word_bits.proofs.Operations.{digit_and}
use Rattle.word_bits.proofs.Order.{lt-or-le}
use Rattle.masks.proofs.RangeLaws.{covers_below, covers_above}
use Rattle.blocks.specs.Sweeps.{swept}
use Rattle.sets.specs.Members.{words_of, read, write, set_of, empty}
use Rattle.blocks.proofs.BlockLaws.{zeroed, zeroed_is, length-swept, swept_in, swept_out}
use Rattle.sets.proofs.WordLaws.{bit_at}
use Rattle.sets.proofs.WriteLaws.{write_is}
use Rattle.sets.proofs.ReadLaws.{read_below}

-- the whole words that the blocks have, then zeros up to the last whole word
abbrev pub once : ℕ → List ℕ → List ℕ → List ℕ
once n blocks ws = swept 0 (min (n / 64) (length blocks)) (λ k w. get_or blocks k 0) ws

abbrev pub copied : ℕ → List ℕ → List ℕ → List ℕ
copied n blocks ws = swept (min (n / 64) (length blocks)) (n / 64) zeroed (once n blocks ws)

module _ (n : ℕ) (blocks ws : List ℕ) (room : words_of n ≤ length ws) where
  pub length-copied : length (copied n blocks ws) ≡ length ws
  length-copied =
      length-swept (min (n / 64) (length blocks)) (n / 64) zeroed (once n blocks ws)
      ∙ length-swept 0 (min (n / 64) (length blocks)) (λ k w. get_or blocks k 0) ws

  pub copied_in : (k : ℕ) → k < n / 64 → get_or (copied n blocks ws) k 0 ≡ get_or blocks k 0
  unfolding words_of
  copied_in k h = go (lt-or-le k (length blocks))
    where
      go : (k < length blocks) ⊎ (length blocks ≤ k) → get_or (copied n blocks ws) k 0 ≡ get_or blocks k 0
      go (inl l) =
          swept_out (min (n / 64) (length blocks)) (n / 64) zeroed (once n blocks ws) k (covers_below (min (n / 64) (length blocks)) (n / 64) k (omega arith))
          ∙ swept_in 0 (min (n / 64) (length blocks)) (λ k w. get_or blocks k 0) ws k (omega arith) (omega arith) (omega arith)
      go (inr g) =
          swept_in (min (n / 64) (length blocks)) (n / 64) zeroed (once n blocks ws) k
          (rw (length-swept 0 (min (n / 64) (length blocks)) (λ k w. get_or blocks k 0) ws) (omega arith)) (omega arith) h
          ∙ zeroed_is k (get_or (once n blocks ws) k 0) ∙ sym (get_or-eq_default blocks 0 g)

  pub copied_out : (k : ℕ) → n / 64 ≤ k → get_or (copied n blocks ws) k 0 ≡ get_or ws k 0
  copied_out k h =
      swept_out (min (n / 64) (length blocks)) (n / 64) zeroed (once n blocks ws) k
      (covers_above (min (n / 64) (length blocks)) (n / 64) k h)
      ∙ swept_out 0 (min (n / 64) (length blocks)) (λ k w. get_or blocks k 0) ws k (covers_above 0 (min (n / 64) (length blocks)) k (omega arith))

  -- words that have the blocks' whole words and the low bits of the last one are those of the set read from the blocks
  pub blocks_write : (vs : List ℕ) → ((k : ℕ) → get_or blocks k 0 < 2 ^ 64) → length vs ≡ length ws
      → ((k : ℕ) → k < n / 64 → get_or vs k 0 ≡ get_or blocks k 0)
      → ((n % 64 ≡ 0 → ⊥) → get_or vs (n / 64) 0 ≡ bit_and (get_or blocks (n / 64) 0) (low_mask (n % 64)))
      → ((k : ℕ) → words_of n ≤ k → get_or vs k 0 ≡ get_or ws k 0) → vs ≡ write ws (read blocks (set_of (empty n)))
  unfolding read words_of
  blocks_write vs fit e full part out =
      write_is ws (read blocks (set_of (empty n))) vs room e (λ k h. go k h (lt-or-le k (n / 64))) out
    where
      go : (k : ℕ) → k < words_of n → (k < n / 64) ⊎ (n / 64 ≤ k) → get_or vs k 0 ≡ word_of (read blocks (set_of (empty n))).has k
      go k h (inl l) =
          full k l
          ∙ word_is (read blocks (set_of (empty n))).has k (get_or blocks k 0) (fit k)
          (λ j b. sym (read_below blocks (set_of (empty n)) (k * 64 + j) (omega arith) ∙ bit_at blocks k j b))
      go k h (inr g) =
          let same : k ≡ n / 64 = omega arith in
          let x : ℕ = get_or blocks k 0 in
          ap (λ (i : ℕ). get_or vs i 0) same ∙ part (λ z. absurd (omega arith)) ∙ ap (λ (i : ℕ). bit_and (get_or blocks i 0) (low_mask (n % 64))) (sym same)
          ∙ word_is (read blocks (set_of (empty n))).has k (bit_and x (low_mask (n % 64))) (and_lt 64 x (low_mask (n % 64)) (fit k) (low_mask_lt (n % 64)))
          (λ j b. digit_and x (low_mask (n % 64)) j ∙ and_comm (digit x j) (digit (low_mask (n % 64)) j)
          ∙ ap₂ ◌&&◌ (digit-low_mask (n % 64) j b ∙ low j (lt-or-le j (n % 64)) same) (sym (bit_at blocks k j b)))
        where
          low : (j : ℕ) → (j < n % 64) ⊎ (n % 64 ≤ j) → k ≡ n / 64 → ltb j (n % 64) ≡ ltb (k * 64 + j) n
          low j (inl l) s = lt-ltb j (n % 64) l ∙ sym (lt-ltb (k * 64 + j) n (omega arith))
          low j (inr u) s = le-ltb j (n % 64) u ∙ sym (le-ltb (k * 64 + j) n (omega arith))
