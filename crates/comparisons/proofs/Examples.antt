-- Sets of two and of three bits, compared by the rules. Assumes nothing.
use mathlib.Core.Path.{◌≡◌, refl}
use mathlib.Core.List.{[], ◌∷◌}
use Rattle.word_bits.specs.Counts.{some}
use Rattle.word_bits.specs.Digits.{digit, number, word_of}
use Rattle.sets.specs.Members.{words_of, bit_of, read}
use Rattle.sets.specs.Outcomes.{given}
use Rattle.sets.specs.Questions.{questions, length_question, words_question, stray_question, both_questions}
use Rattle.comparisons.specs.Orders.{words_order}
use Rattle.comparisons.specs.Rules.{cmp_rule}

-- of two bits, {0} is below {1}
zero_below_one : cmp_rule (record { length = 2 }) (1 ∷ []) (record { length = 2 }) (2 ∷ []) ≡ record { number = 0; order = 1 }
unfolding given both_questions questions length_question words_question stray_question words_of read bit_of digit number word_of some words_order
zero_below_one = refl

-- both are below the empty set of three bits
zero_below_longer : cmp_rule (record { length = 2 }) (1 ∷ []) (record { length = 3 }) (0 ∷ []) ≡ record { number = 0; order = 1 }
unfolding given both_questions questions length_question words_question stray_question words_of read bit_of digit some words_order
zero_below_longer = refl

one_below_longer : cmp_rule (record { length = 2 }) (2 ∷ []) (record { length = 3 }) (0 ∷ []) ≡ record { number = 0; order = 1 }
unfolding given both_questions questions length_question words_question stray_question words_of read bit_of digit some words_order
one_below_longer = refl
