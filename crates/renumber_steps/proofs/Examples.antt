-- Small renumberings computed from the rule. Assumes nothing.
use mathlib.Core.Path.{◌≡◌, refl}
use mathlib.Core.List.{List, [], ◌∷◌}
use Prim.Native.Nat.{ℕ}
use Rattle.word_bits.specs.Counts.{some}
use Rattle.word_bits.specs.Digits.{digit, number, word_of}
use Rattle.sets.specs.Members.{words_of, bit_of, read, write}
use Rattle.sets.specs.Outcomes.{Outcome, given}
use Rattle.sets.specs.Questions.{length_question, words_question, stray_question, questions, position_question, positions_question, new_length_question, room_question}
use Rattle.edits.specs.Edits.{is_in}
use Rattle.renumber_steps.specs.Pairs.{olds, news, repeats, arrives, renumbered, sided_pair, sided, swapped}
use Rattle.renumber_steps.specs.Rules.{olds_question, news_question, members_question, renumber_rule}
use Rattle.renumber_steps.specs.declared.pair.Pair.{Pair}

pair : ℕ → ℕ → Pair
pair old new = record { old = old; new = new }

-- {0, 2} of three bits to six bits, into two words of which the second is the caller's
moved : List Pair → Outcome
moved ps = renumber_rule (record { length = 3 }) (5 ∷ []) ps 6 (7 ∷ 9 ∷ [])

leaves : ℕ → ℕ → ℕ → Outcome
leaves number length word = record { number = number; set = record { length = length }; words = word ∷ 9 ∷ [] }

-- a pair of no member moves nothing; old offsets from the length up are allowed
accepted : (moved (pair 0 5 ∷ pair 2 1 ∷ pair 1 0 ∷ []) ≡ leaves 0 6 34) × (moved (pair 70000 4 ∷ pair 2 2 ∷ pair 0 0 ∷ []) ≡ leaves 0 6 5)
unfolding moved leaves pair some words_of bit_of read write given length_question words_question stray_question questions position_question positions_question new_length_question room_question is_in digit number word_of olds news repeats arrives renumbered olds_question news_question members_question
accepted = (refl, refl)

-- each number, where those after it would be given too: the same pair twice is 10; equal new offsets above the new length are 11; 4 of a pair of no member; 12
refused : (moved (pair 1 6 ∷ pair 1 6 ∷ []) ≡ leaves 10 0 7) × (moved (pair 1 6 ∷ pair 4 6 ∷ []) ≡ leaves 11 0 7)
    × (moved (pair 1 6 ∷ pair 0 0 ∷ []) ≡ leaves 4 0 7) × (moved (pair 1 5 ∷ pair 0 0 ∷ []) ≡ leaves 12 0 7)
unfolding moved leaves pair some words_of bit_of read write given length_question words_question stray_question questions position_question positions_question new_length_question room_question is_in digit number word_of olds news repeats arrives renumbered olds_question news_question members_question
refused = (refl, refl, refl, refl)

-- 6 and 7 before them, 1 to 3 before those
before : (renumber_rule (record { length = 3 }) (5 ∷ []) (pair 1 6 ∷ pair 1 6 ∷ []) 65537 [] ≡ record { number = 6; set = record { length = 0 }; words = [] })
    × (renumber_rule (record { length = 3 }) (5 ∷ []) (pair 1 6 ∷ pair 1 6 ∷ []) 6 [] ≡ record { number = 7; set = record { length = 0 }; words = [] })
    × (renumber_rule (record { length = 3 }) (8 ∷ []) (pair 1 6 ∷ pair 1 6 ∷ []) 65537 [] ≡ record { number = 3; set = record { length = 0 }; words = [] })
unfolding pair some words_of bit_of given length_question words_question stray_question questions new_length_question room_question digit
before = (refl, refl, refl)

-- the way back of the first
back : renumber_rule (record { length = 6 }) (34 ∷ 9 ∷ []) (swapped (pair 0 5 ∷ pair 2 1 ∷ pair 1 0 ∷ [])) 3 (7 ∷ []) ≡ record { number = 0; set = record { length = 3 }; words = 5 ∷ [] }
unfolding pair sided sided_pair some words_of bit_of read write given length_question words_question stray_question questions position_question positions_question new_length_question room_question is_in digit number word_of olds news repeats arrives renumbered olds_question news_question members_question
back = refl
