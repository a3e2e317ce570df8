-- The ones of a range, word by word, and its zeroes. Assumes nothing.
use mathlib.Core.Path.{◌≡◌, sym, ap, ap₂, ◌∙◌}
use mathlib.Core.Bool.{Bool, false, ◌&&◌}
use mathlib.Core.List.{List}
use mathlib.Core.Logic.{◌⊎◌, inl, inr}
use Prim.Native.Nat.{ℕ, ◌+◌, ◌-◌, ◌*◌, ◌/◌, ◌≤◌, ◌<◌}
use native.Mathlib.Omega.{arith}
use lib.Bits.{bit_and}
use lib.ListN.{get_or}
use Rattle.word_bits.specs.Digits.{digit}
use Rattle.word_bits.specs.Counts.{count}
use Rattle.word_bits.proofs.Ones.{count_ext, count_none}
use Rattle.word_bits.proofs.Order.{lt-or-le}
use Rattle.masks.specs.Ranges.{covers, end_block}
use Rattle.masks.specs.RangeMasks.{range_mask}
use Rattle.masks.proofs.RangeLaws.{end_block_lem}
use Rattle.sets.proofs.RangeQuestionLaws.{Within}
use Rattle.sets.specs.Members.{bit_of, read}
use Rattle.sets.specs.declared.fixed_bit_set.FixedBitSet.{FixedBitSet}
use Rattle.sets.proofs.ReadLaws.{read_below}
use Rattle.sets.proofs.WordLaws.{bit_at}
use Rattle.tests.proofs.PartLaws.{part_below, part_above, part_inside, masked_digit, meets, in_range}
use Rattle.tests.proofs.RowLaws.{count_clip, count_split, count-covers}
use Rattle.tests.specs.Tests.{ones_in, zeroes_in}
use Rattle.range_counts.proofs.RunLaws.{run, one_word, three_parts}

-- ---- the words of a range

-- the ones of word k in the range
abbrev pub ones_at : ℕ → ℕ → List ℕ → ℕ → ℕ
ones_at start end ws k = count 64 (digit (bit_and (get_or ws k 0) (range_mask start end k)))

module _ (start end : ℕ) (ws : List ℕ) where
  ones_at_lem : (k : ℕ) → ones_at start end ws k ≡ run (in_range start end (bit_of ws)) (k * 64) 64
  ones_at_lem k =
      count_ext 64 (digit (bit_and (get_or ws k 0) (range_mask start end k))) (λ j. in_range start end (bit_of ws) (k * 64 + j))
      (masked_digit start end k (get_or ws k 0) (bit_of ws) (λ j l. sym (bit_at ws k j l)))

  before : (p : ℕ) → p < start / 64 * 64 → in_range start end (bit_of ws) p ≡ false
  before p h = part_below start end (bit_of ws) p (omega arith)

  after : (p : ℕ) → end ≤ p → in_range start end (bit_of ws) p ≡ false
  after p h = part_above start end (bit_of ws) p h

  pub ones_empty : end_block start end ≤ start / 64 → 0 ≡ count end (in_range start end (bit_of ws))
  ones_empty h = go (lt-or-le start end)
    where
      go : (start < end) ⊎ (end ≤ start) → 0 ≡ count end (in_range start end (bit_of ws))
      go (inl l) = absurd (omega (arith, end_block_lem start end l))
      go (inr g) = sym (count_none end (in_range start end (bit_of ws)) (λ p l. part_below start end (bit_of ws) p (omega arith)))

  pub ones_one : start / 64 < end_block start end → end_block start end - 1 ≤ start / 64 → ones_at start end ws (start / 64) ≡ count end (in_range start end (bit_of ws))
  ones_one a b =
      let m = meets start end a in
      ones_at_lem (start / 64) ∙ sym (one_word (in_range start end (bit_of ws)) (start / 64) end before after (omega arith))

  pub ones_three : (last : ℕ) → last + 1 ≡ end_block start end → start / 64 < last
      → ones_at start end ws (start / 64) + run (bit_of ws) ((start / 64 + 1) * 64) ((last - (start / 64 + 1)) * 64) + ones_at start end ws last
      ≡ count end (in_range start end (bit_of ws))
  ones_three last e l =
      let m = meets start end (omega arith) in
      let n : ℕ = (last - (start / 64 + 1)) * 64 in
      let mid : run (bit_of ws) ((start / 64 + 1) * 64) n ≡ run (in_range start end (bit_of ws)) ((start / 64 + 1) * 64) n =
      count_ext n (λ j. bit_of ws ((start / 64 + 1) * 64 + j)) (λ j. in_range start end (bit_of ws) ((start / 64 + 1) * 64 + j))
      (λ j h. sym (part_inside start end (bit_of ws) ((start / 64 + 1) * 64 + j) (omega arith) (omega arith))) in
      ap₂ ◌+◌ (ap₂ ◌+◌ (ones_at_lem (start / 64)) mid) (ones_at_lem last)
      ∙ sym (three_parts (in_range start end (bit_of ws)) (start / 64) end before after last l (omega arith))

-- ---- members

module _ (set : FixedBitSet) (ws : List ℕ) (start end : ℕ) (w : Within start end set.length) where
  pub ones_is : count end (in_range start end (bit_of ws)) ≡ ones_in start end (read ws set)
  unfolding read
  ones_is =
      count_ext end (in_range start end (bit_of ws)) (in_range start end (read ws set).has)
      (λ p h. ap (λ (b : Bool). covers start end p && b) (sym (read_below ws set p (omega (arith, w.inside)))))
      ∙ sym (count_clip (in_range start end (read ws set).has) end (λ p h. part_above start end (read ws set).has p h) set.length w.inside)

  -- what is no one is a zero
  pub ones_and_zeroes : count end (in_range start end (bit_of ws)) + zeroes_in start end (read ws set) ≡ end - start
  unfolding read
  ones_and_zeroes =
      ap (λ (x : ℕ). x + zeroes_in start end (read ws set)) ones_is
      ∙ count_split set.length (covers start end) (read ws set).has
      ∙ count-covers start end set.length w.ordered w.inside
