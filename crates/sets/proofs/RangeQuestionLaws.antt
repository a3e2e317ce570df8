-- What questions 5 and 8 tell: two numbers in order, and the second within a length. Assumes nothing.
use mathlib.Core.Path.{◌≡◌, ap, ap₂, ◌∙◌}
use mathlib.Core.Bool.{Bool, cond, ◌&&◌, and-false}
use mathlib.Core.List.{List}
use mathlib.Core.Logic.{◌⊎◌, inl, inr}
use Prim.Native.Nat.{ℕ, ◌*◌, ◌≤◌, ◌<◌}
use native.Mathlib.Omega.{arith}
use borrow.Author.Tests.{le-leb, lt-leb}
use lib.Dec.{leb}
use lib.ListN.{length}
use Rattle.word_bits.proofs.Order.{lt-or-le}
use Rattle.sets.specs.Questions.{first, range_question, part_question, range_questions, both_questions, pair_questions}
use Rattle.sets.specs.declared.fixed_bit_set.FixedBitSet.{FixedBitSet}
use Rattle.sets.specs.declared.answers.Part.{Part}
use Rattle.sets.proofs.QuestionLaws.{Valid, valid, first-both, BothValid, both_valid}
use Rattle.sets.proofs.WordLaws.{words_hold}

-- what is not refused
pub record Within (low high len : ℕ) : Type 0 where
  pub ordered : low ≤ high
  pub inside : high ≤ len

-- the test of both, with the number of either
module _ (n low high len : ℕ) where
  question : ℕ
  question = cond (leb low high && leb high len) 0 n

  yes : low ≤ high → high ≤ len → question ≡ 0
  unfolding question
  yes a b = ap₂ (λ (s t : Bool). cond (s && t) 0 n) (le-leb low high a) (le-leb high len b)

  inverted : high < low → question ≡ n
  unfolding question
  inverted a = ap (λ (s : Bool). cond (s && leb high len) 0 n) (lt-leb low high a)

  outside : len < high → question ≡ n
  unfolding question
  outside a =
      ap (λ (t : Bool). cond (leb low high && t) 0 n) (lt-leb high len a) ∙ ap (λ (t : Bool). cond t 0 n) (and-false (leb low high))

  accepted : 0 < n → question ≡ 0 → Within low high len
  accepted h e = go (lt-or-le high low) (lt-or-le len high)
    where
      go : (high < low) ⊎ (low ≤ high) → (len < high) ⊎ (high ≤ len) → Within low high len
      go (inl a) w = absurd (omega (arith, inverted a))
      go (inr a) (inl b) = absurd (omega (arith, outside b))
      go (inr a) (inr b) = record { ordered = a; inside = b }

-- ---- question 5

module _ (start end len : ℕ) where
  pub range_yes : start ≤ end → end ≤ len → range_question start end len ≡ 0
  unfolding range_question question
  range_yes a b = yes 5 start end len a b

  pub range_inverted : end < start → range_question start end len ≡ 5
  unfolding range_question question
  range_inverted a = inverted 5 start end len a

  pub range_outside : len < end → range_question start end len ≡ 5
  unfolding range_question question
  range_outside a = outside 5 start end len a

  pub within : range_question start end len ≡ 0 → Within start end len
  unfolding range_question question
  within e = accepted 5 start end len (omega arith) e

-- ---- question 8

module _ (set : FixedBitSet) (part : Part) where
  pub part_yes : part.low ≤ part.high → part.high ≤ set.length → part_question set part ≡ 0
  unfolding part_question question
  part_yes a b = yes 8 part.low part.high set.length a b

  pub part_inverted : part.high < part.low → part_question set part ≡ 8
  unfolding part_question question
  part_inverted a = inverted 8 part.low part.high set.length a

  pub part_outside : set.length < part.high → part_question set part ≡ 8
  unfolding part_question question
  part_outside a = outside 8 part.low part.high set.length a

  pub part_within : part_question set part ≡ 0 → Within part.low part.high set.length
  unfolding part_question question
  part_within e = accepted 8 part.low part.high set.length (omega arith) e

-- ---- a step over two parts

pub record PairAccepted (a : FixedBitSet) (ws : List ℕ) (b : FixedBitSet) (vs : List ℕ) (one two : Part) : Type 0 where
  pub sets : BothValid a ws b vs
  pub first : part_question a one ≡ 0
  pub second : part_question b two ≡ 0

pub pair_accepted : (a : FixedBitSet) (ws : List ℕ) (b : FixedBitSet) (vs : List ℕ) (one two : Part) → pair_questions a ws b vs one two ≡ 0
    → PairAccepted a ws b vs one two
pair_accepted a ws b vs one two e =
    let outer = first-both (both_questions a ws b vs) (first (part_question a one) (part_question b two)) e in
    let parts = first-both (part_question a one) (part_question b two) outer.1 in
    record { sets = both_valid a ws b vs outer.0; first = parts.0; second = parts.1 }

-- ---- a range of a set

-- the words of a valid set hold its positions
pub words_room : (set : FixedBitSet) (ws : List ℕ) → Valid set ws → set.length ≤ length ws * 64
words_room set ws v = omega (arith, words_hold set.length, v.enough)

-- a range that no question refuses
pub record HeldRange (set : FixedBitSet) (ws : List ℕ) (start end : ℕ) : Type 0 where
  pub range : Within start end set.length
  pub small : end ≤ 65536
  pub held : end ≤ length ws * 64

pub held_range : (set : FixedBitSet) (ws : List ℕ) (start end : ℕ) → range_questions set ws start end ≡ 0 → HeldRange set ws start end
held_range set ws start end e =
    let both = first-both _ _ e in
    let v = valid set ws both.0 in
    let w = within start end set.length both.1 in
    record { range = w; small = omega (arith, v.small, w.inside); held = omega (arith, words_room set ws v, w.inside) }
