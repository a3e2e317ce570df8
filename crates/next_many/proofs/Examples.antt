-- The specification's sets with buffers of several sizes, computed from the rules: number, count, records, buffer. Assumes nothing.
use mathlib.Core.Path.{◌≡◌, refl}
use mathlib.Core.List.{List, [], ◌∷◌}
use Prim.Native.Nat.{ℕ}
use Rattle.word_bits.specs.Counts.{some, zeros_below}
use Rattle.word_bits.specs.Digits.{digit}
use Rattle.sets.specs.Members.{words_of, bit_of, read}
use Rattle.sets.specs.Outcomes.{given}
use Rattle.sets.specs.Questions.{length_question, words_question, stray_question, questions, both_questions, part_question}
use Rattle.sets.specs.declared.answers.Part.{Part}
use Rattle.sets.specs.declared.fixed_bit_set.FixedBitSet.{FixedBitSet}
use Rattle.parts.specs.Steps.{front}
use Rattle.next_many.specs.Many.{front_steps, front_pairs}
use Rattle.next_many.specs.Rules.{ManyOutcome, ManyPairOutcome, zeroes_next_many_rule, difference_next_many_rule, union_next_many_rule, symmetric_difference_next_many_rule}

abbrev bits : ℕ → FixedBitSet
bits n = record { length = n }

abbrev to : ℕ → ℕ → Part
to low high = record { low = low; high = high }

abbrev one : ManyOutcome → List ℕ
one r = r.number ∷ r.count ∷ r.part.low ∷ r.part.high ∷ r.out

abbrev two : ManyPairOutcome → List ℕ
two r = r.number ∷ r.count ∷ r.one.low ∷ r.one.high ∷ r.two.low ∷ r.two.high ∷ r.out

-- A = {1, 70}, L = 71; B = {0, 1}, L = 2: the union into five words and into two, the symmetric difference, a second record past its set
pairs : two (union_next_many_rule (bits 71) (2 ∷ 64 ∷ []) (bits 2) (3 ∷ []) (to 0 71) (to 0 2) (9 ∷ 9 ∷ 9 ∷ 9 ∷ 9 ∷ []))
    ∷ two (union_next_many_rule (bits 71) (2 ∷ 64 ∷ []) (bits 2) (3 ∷ []) (to 0 71) (to 0 2) (9 ∷ 9 ∷ []))
    ∷ two (symmetric_difference_next_many_rule (bits 71) (2 ∷ 64 ∷ []) (bits 2) (3 ∷ []) (to 0 71) (to 0 2) (9 ∷ 9 ∷ 9 ∷ []))
    ∷ two (union_next_many_rule (bits 71) (2 ∷ 64 ∷ []) (bits 2) (3 ∷ []) (to 0 71) (to 0 3) (9 ∷ [])) ∷ []
    ≡ (0 ∷ 3 ∷ 71 ∷ 71 ∷ 1 ∷ 2 ∷ 1 ∷ 70 ∷ 0 ∷ 9 ∷ 9 ∷ []) ∷ (0 ∷ 2 ∷ 71 ∷ 71 ∷ 0 ∷ 2 ∷ 1 ∷ 70 ∷ []) ∷ (0 ∷ 2 ∷ 71 ∷ 71 ∷ 1 ∷ 2 ∷ 70 ∷ 0 ∷ 9 ∷ []) ∷ (8 ∷ 0 ∷ 0 ∷ 71 ∷ 0 ∷ 3 ∷ 9 ∷ []) ∷ []
unfolding front_pairs front zeros_below read bit_of digit given both_questions questions length_question words_question stray_question some words_of part_question
pairs = refl

-- L = 3, {1}: `zeroes`; the words of the second set after its own are not read
singles : one (zeroes_next_many_rule (bits 3) (2 ∷ []) (to 0 3) (9 ∷ 9 ∷ 9 ∷ [])) ∷ one (difference_next_many_rule (bits 66) (1 ∷ 3 ∷ []) (bits 2) (1 ∷ 3 ∷ []) (to 0 66) (9 ∷ 9 ∷ [])) ∷ []
    ≡ (0 ∷ 2 ∷ 3 ∷ 3 ∷ 0 ∷ 2 ∷ 9 ∷ []) ∷ (0 ∷ 2 ∷ 66 ∷ 66 ∷ 64 ∷ 65 ∷ []) ∷ []
unfolding front_steps front zeros_below read bit_of digit given both_questions questions length_question words_question stray_question some words_of part_question
singles = refl
