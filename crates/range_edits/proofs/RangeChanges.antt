-- The words after the change of a range are those of the set with the range changed. Assumes nothing.
use mathlib.Core.Path.{◌≡◌, ap, ◌∙◌}
use mathlib.Core.Bool.{Bool, cond}
use mathlib.Core.List.{List}
use mathlib.Core.Logic.{◌⊎◌, inl, inr}
use Prim.Native.Nat.{ℕ, ◌^◌, ◌≤◌, ◌<◌}
use native.Mathlib.Omega.{arith}
use lib.ListN.{length, get_or}
use Rattle.word_bits.specs.Digits.{digit}
use Rattle.word_bits.proofs.Digits.{digit_word}
use Rattle.word_bits.proofs.Order.{lt-or-le}
use Rattle.masks.specs.Ranges.{covers}
use Rattle.masks.specs.RangeMasks.{range_mask}
use Rattle.masks.proofs.MaskLaws.{mask_beyond}
use Rattle.masks.proofs.RangeLaws.{covers_above, end_block_le}
use Rattle.sets.proofs.RangeQuestionLaws.{Within}
use Rattle.blocks.specs.Sweeps.{swept}
use Rattle.sets.specs.Members.{words_of, read, write, changed}
use Rattle.sets.specs.declared.fixed_bit_set.FixedBitSet.{FixedBitSet}
use Rattle.blocks.proofs.BlockLaws.{length-swept, swept_in, swept_out}
use Rattle.sets.proofs.QuestionLaws.{Valid}
use Rattle.sets.proofs.ReadLaws.{changed-write}
use Rattle.changes.specs.Changes.{effect, changed_word}
use Rattle.changes.specs.declared.change.Change.{Change}
use Rattle.range_edits.proofs.BlockChanges.{masked}
use Rattle.changes.proofs.WordChanges.{changed-digit, changed-lt, no_mask}

pub range_write : (set : FixedBitSet) (ws : List ℕ) → Valid set ws → ((k : ℕ) → get_or ws k 0 < 2 ^ 64) → (start end : ℕ) → Within start end set.length
    → (change : Change) → swept 0 (length ws) (masked change start end) ws ≡ write ws (changed (covers start end) (effect change) (read ws set))
unfolding words_of
range_write set ws v fit start end w change =
    changed-write set ws v (covers start end) (effect change) (swept 0 (length ws) (masked change start end) ws)
    (length-swept 0 (length ws) (masked change start end) ws)
    (λ k h. rw (at k (omega (arith, v.enough))) (changed-lt change (range_mask start end k) (get_or ws k 0)))
    (λ k j h l. ap (λ (x : ℕ). digit x j) (at k (omega (arith, v.enough))) ∙ changed-digit change (range_mask start end k) (get_or ws k 0) j l
    ∙ ap (λ (t : Bool). cond t (effect change (digit (get_or ws k 0) j)) (digit (get_or ws k 0) j)) (digit_word (covers start end) k j l))
    (λ k h. go k h (lt-or-le k (length ws)))
  where
    at : (k : ℕ) → k < length ws → get_or (swept 0 (length ws) (masked change start end) ws) k 0 ≡ masked change start end k (get_or ws k 0)
    at k h = swept_in 0 (length ws) (masked change start end) ws k h (omega arith) h

    go : (k : ℕ) → words_of set.length ≤ k → (k < length ws) ⊎ (length ws ≤ k) → get_or (swept 0 (length ws) (masked change start end) ws) k 0 ≡ get_or ws k 0
    go k h (inl l) =
        at k l ∙ ap (λ (m : ℕ). changed_word change m (get_or ws k 0)) (mask_beyond start end k (let e = end_block_le start end set.length w.ordered w.inside in omega arith))
        ∙ no_mask change (get_or ws k 0) (fit k)
    go k h (inr g) = swept_out 0 (length ws) (masked change start end) ws k (covers_above 0 (length ws) k g)
