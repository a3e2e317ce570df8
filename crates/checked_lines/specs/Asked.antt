-- What a line of document 01 asks, and what the definitions that the contracts cite answer, as numbers.
use Rattle.std.specs.Prelude.{cond, List, [], ◌∷◌, ◌++◌, ℕ, eqb, length, replicate}
use Rattle.word_bits.specs.Digits.{one}
use Rattle.word_bits.specs.LastBit.{last_bit_rule}
use Rattle.word_bits.specs.declared.last_bit.LastBit.{LastBit}
use Rattle.sets.specs.Members.{read}
use Rattle.sets.specs.Outcomes.{Outcome}
use Rattle.sets.specs.declared.fixed_bit_set.FixedBitSet.{FixedBitSet}
use Rattle.sets.specs.declared.answers.Counted.{Counted}
use Rattle.sets.specs.declared.answers.Told.{Told}
use Rattle.edits.specs.Rules.{insert_rule, copy_bit_rule}
use Rattle.edits.specs.Rules.{insert_range_rule}
use Rattle.sets.specs.Outcomes.{Found}
use Rattle.std.specs.Prelude.{None}
use Rattle.tests.specs.Rules.{is_full_rule, is_clear_rule}
use Rattle.tests.specs.Rules.{count_ones_rule}
use Rattle.tests.specs.Rules.{minimum_rule}
use Rattle.two_sets.specs.Rules.{union_with_rule}
use Rattle.two_set_counts.specs.Rules.{union_count_rule, symmetric_difference_count_rule}
use Rattle.walks.specs.Rules.{first_part, ones_next_rule, ones_next_back_rule}
use Rattle.walks.specs.Rules.{union_next_rule, union_next_back_rule, symmetric_difference_next_rule, symmetric_difference_next_back_rule}
use Rattle.walks.specs.Rules.{Stepped, SteppedPair}
use Rattle.whole_walks.specs.Walks.{walk_list}
use Rattle.whole_walks.specs.Rules.{WalkOutcome, answer_word, walk_rule}
use Rattle.whole_walks.specs.declared.walk.Walk.{Walk}

-- a set with its lent words, and the call or the walk
pub data Asked : Type 0 where
  IsFull : FixedBitSet → List ℕ → Asked
  IsClear : FixedBitSet → List ℕ → Asked
  Minimum : FixedBitSet → List ℕ → Asked
  Insert : FixedBitSet → List ℕ → ℕ → Asked
  CopyBit : FixedBitSet → List ℕ → ℕ → ℕ → Asked
  InsertRange : FixedBitSet → List ℕ → ℕ → ℕ → Asked
  CountOnes : FixedBitSet → List ℕ → ℕ → ℕ → Asked
  UnionWith : FixedBitSet → List ℕ → FixedBitSet → List ℕ → Asked
  LastBitOf : ℕ → Asked
  UnionCount : FixedBitSet → List ℕ → FixedBitSet → List ℕ → Asked
  SymmetricDifferenceCount : FixedBitSet → List ℕ → FixedBitSet → List ℕ → Asked
  -- a walk's steps, one call after another: at the front for 0 and at the back for 1
  OnesSteps : FixedBitSet → List ℕ → List ℕ → Asked
  UnionSteps : FixedBitSet → List ℕ → FixedBitSet → List ℕ → List ℕ → Asked
  SymmetricDifferenceSteps : FixedBitSet → List ℕ → FixedBitSet → List ℕ → List ℕ → Asked
  -- a walk's list
  Listed : Walk → FixedBitSet → List ℕ → FixedBitSet → List ℕ → Asked
  -- a whole walk: steps at the front for 0 and at the back for 1
  Steps : Walk → FixedBitSet → List ℕ → FixedBitSet → List ℕ → List ℕ → Asked

-- number, length and every lent word
abbrev pub edit_numbers : Outcome → List ℕ
edit_numbers r = r.number ∷ r.set.length ∷ r.words

-- number, and 1 for yes
abbrev pub told_numbers : Told → List ℕ
told_numbers r = r.number ∷ one r.yes ∷ []

-- number, and the position or 2 ^ 64 - 1 for none
abbrev pub found_numbers : Found → List ℕ
found_numbers r = r.number ∷ answer_word r.at ∷ []

-- number, count
abbrev pub count_numbers : Counted → List ℕ
count_numbers r = r.number ∷ r.count ∷ []

-- number, position, rest
abbrev pub last_bit_numbers : LastBit → List ℕ
last_bit_numbers r = r.number ∷ r.position ∷ r.rest ∷ []

-- number, count and an answer for each step
abbrev pub walk_numbers : WalkOutcome → List ℕ
walk_numbers r = r.number ∷ r.count ∷ r.out

-- number, position or none, low and high
abbrev pub step_numbers : Stepped → List ℕ
step_numbers r = r.number ∷ answer_word r.at ∷ r.part.low ∷ r.part.high ∷ []

-- number, position or none, low and high of the first part, then of the second
abbrev pub pair_numbers : SteppedPair → List ℕ
pair_numbers r = r.number ∷ answer_word r.at ∷ r.one.low ∷ r.one.high ∷ r.two.low ∷ r.two.high ∷ []

-- what each step gives; each takes the records that the step before gave
unfoldable pub steps_from : {S : Type 0} → (S → List ℕ) → (S → S) → (S → S) → List ℕ → S → List ℕ
steps_from numbers front back [] s = []
steps_from numbers front back (end ∷ ends) s =
    numbers (cond (eqb end 0) (front s) (back s)) ++ steps_from numbers front back ends (cond (eqb end 0) (front s) (back s))

-- before the first step: each part's record as it is at first
abbrev pub one_at_first : FixedBitSet → Stepped
one_at_first set = record { number = 0; at = None; part = first_part set }

abbrev pub pair_at_first : FixedBitSet → FixedBitSet → SteppedPair
pair_at_first a b = record { number = 0; at = None; one = first_part a; two = first_part b }

abbrev pub answer : Asked → List ℕ
answer (IsFull set ws) = told_numbers (is_full_rule set ws)
answer (IsClear set ws) = told_numbers (is_clear_rule set ws)
answer (Minimum set ws) = found_numbers (minimum_rule set ws)
answer (Insert set ws bit) = edit_numbers (insert_rule set ws bit)
answer (CopyBit set ws from to) = edit_numbers (copy_bit_rule set ws from to)
answer (InsertRange set ws start end) = edit_numbers (insert_range_rule set ws start end)
answer (CountOnes set ws start end) = count_numbers (count_ones_rule set ws start end)
answer (UnionWith a ws b vs) = edit_numbers (union_with_rule a ws b vs)
answer (LastBitOf word) = last_bit_numbers (last_bit_rule word)
answer (UnionCount a ws b vs) = count_numbers (union_count_rule a ws b vs)
answer (SymmetricDifferenceCount a ws b vs) = count_numbers (symmetric_difference_count_rule a ws b vs)
answer (OnesSteps set ws steps) =
    steps_from step_numbers (λ s. ones_next_rule set ws s.part) (λ s. ones_next_back_rule set ws s.part) steps (one_at_first set)
answer (UnionSteps a ws b vs steps) =
    steps_from pair_numbers
    (λ s. union_next_rule a ws b vs s.one s.two)
    (λ s. union_next_back_rule a ws b vs s.one s.two)
    steps
    (pair_at_first a b)
answer (SymmetricDifferenceSteps a ws b vs steps) =
    steps_from pair_numbers
    (λ s. symmetric_difference_next_rule a ws b vs s.one s.two)
    (λ s. symmetric_difference_next_back_rule a ws b vs s.one s.two)
    steps
    (pair_at_first a b)
answer (Listed walk a ws b vs) = walk_list walk (read ws a) (read vs b)
answer (Steps walk a ws b vs steps) = walk_numbers (walk_rule a ws b vs walk steps (replicate (length steps) 0))
