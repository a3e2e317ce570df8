-- Bits from the length up can stand in the last word alone: what is left of it when its bits below the length are shifted out. Assumes nothing.
use mathlib.Core.Path.{◌≡◌, sym, ap, ◌∙◌}
use mathlib.Core.Bool.{false}
use mathlib.Core.List.{List}
use Prim.Native.Nat.{ℕ, ◌+◌, ◌-◌, ◌*◌, ◌/◌, ◌%◌, ◌^◌, ◌≤◌, ◌<◌}
use native.Mathlib.Omega.{arith}
use lib.ListN.{length, get_or}
use lib.Pow.{shr_lt}
use Rattle.word_bits.specs.Digits.{digit}
use Rattle.word_bits.specs.Counts.{zeros_below}
use Rattle.word_bits.proofs.Digits.{digit_of_zero}
use Rattle.word_bits.proofs.Ends.{below_lt, below_yes}
use Rattle.word_bits.proofs.ShiftMasks.{digit_down}
use Rattle.sets.specs.Members.{words_of, bit_of}
use Rattle.sets.specs.Questions.{questions}
use Rattle.sets.specs.declared.fixed_bit_set.FixedBitSet.{FixedBitSet}
use Rattle.sets.proofs.WordLaws.{bit_at}
use Rattle.sets.proofs.QuestionLaws.{Valid, question_3}

module _ (set : FixedBitSet) (ws : List ℕ) where
  -- the last word's bits from the length up
  abbrev pub stray : ℕ
  stray = get_or ws (set.length / 64) 0 / 2 ^ (set.length % 64)

  -- bit i of them is that of position L + i
  stray_bit : (i : ℕ) → set.length % 64 + i < 64 → bit_of ws (set.length + i) ≡ digit stray i
  stray_bit i h =
      let split : set.length + i ≡ set.length / 64 * 64 + (set.length % 64 + i) = omega arith in
      ap (bit_of ws) split ∙ bit_at ws (set.length / 64) (set.length % 64 + i) h
      ∙ sym (digit_down (get_or ws (set.length / 64) 0) (set.length % 64) i)

module _ (set : FixedBitSet) (ws : List ℕ) (small : set.length ≤ 65536) (enough : words_of set.length ≤ length ws) where
  pub no_partial_word : set.length % 64 ≡ 0 → Valid set ws
  unfolding words_of
  no_partial_word e = record { small = small; enough = enough; clean = λ p l h. absurd (omega arith) }

  pub clear_above : stray set ws ≡ 0 → Valid set ws
  unfolding words_of
  clear_above e = record { small = small; enough = enough; clean = clean }
    where
      clean : (p : ℕ) → set.length ≤ p → p < words_of set.length * 64 → bit_of ws p ≡ false
      clean p l h =
          let split : p ≡ set.length + (p - set.length) = omega arith in
          ap (bit_of ws) split ∙ stray_bit set ws (p - set.length) (omega arith)
          ∙ ap (λ (y : ℕ). digit y (p - set.length)) e ∙ digit_of_zero (p - set.length)

  pub found_above : get_or ws (set.length / 64) 0 < 2 ^ 64 → (set.length % 64 ≡ 0 → ⊥) → (stray set ws ≡ 0 → ⊥) → questions set ws ≡ 3
  unfolding words_of
  found_above fit part some =
      question_3 set ws small enough (set.length + t) (omega arith) (omega (arith, low))
      (stray_bit set ws t (omega (arith, low)) ∙ below_yes (64 - set.length % 64) (digit (stray set ws)) low)
    where
      t : ℕ
      t = zeros_below (64 - set.length % 64) (digit (stray set ws))

      low : t < 64 - set.length % 64
      low =
          let all : 64 - set.length % 64 + set.length % 64 ≡ 64 = omega arith in
          below_lt (64 - set.length % 64) (stray set ws) (omega arith) (shr_lt (64 - set.length % 64) (set.length % 64) (rw all fit))
