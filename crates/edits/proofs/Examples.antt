-- Document 01's example of growth, and lists of positions, computed from the rules. Assumes nothing.
use mathlib.Core.Path.{◌≡◌, refl}
use mathlib.Core.List.{List, [], ◌∷◌}
use Prim.Native.Nat.{ℕ}
use Rattle.word_bits.specs.Counts.{some}
use Rattle.word_bits.specs.Digits.{digit, number, word_of}
use Rattle.sets.specs.Members.{words_of, bit_of, read, write, changed}
use Rattle.sets.specs.Outcomes.{Outcome, given}
use Rattle.sets.specs.Questions.{length_question, words_question, stray_question, questions, position_question, positions_question, new_length_question, room_question}
use Rattle.edits.specs.Edits.{is_in}
use Rattle.edits.specs.Rules.{grow_and_insert_rule, insert_all_rule}

-- `grow_and_insert` of 65,536: 6
too_long : grow_and_insert_rule (record { length = 0 }) [] 65536 ≡ record { number = 6; set = record { length = 0 }; words = [] }
unfolding some words_of given length_question words_question stray_question questions new_length_question room_question
too_long = refl

-- a list of positions on three bits, of which 0 is a member, in two words of which the second is the caller's
listed : List ℕ → Outcome
listed ps = insert_all_rule (record { length = 3 }) (1 ∷ 9 ∷ []) ps

leaves : ℕ → ℕ → Outcome
leaves number word = record { number = number; set = record { length = 3 }; words = word ∷ 9 ∷ [] }

-- a repeat marks once, an empty list nothing; refused at the first position, at a middle one, at the last
lists : (listed (2 ∷ 0 ∷ 2 ∷ []) ≡ leaves 0 5) × (listed [] ≡ leaves 0 1)
    × (listed (3 ∷ 1 ∷ []) ≡ leaves 4 1) × (listed (1 ∷ 7 ∷ 2 ∷ []) ≡ leaves 4 1) × (listed (1 ∷ 2 ∷ 3 ∷ []) ≡ leaves 4 1)
unfolding listed leaves some words_of bit_of read write changed given length_question words_question stray_question questions position_question positions_question is_in digit number word_of
lists = (refl, refl, refl, refl, refl)

-- an empty list asks 1 to 3
unsound : insert_all_rule (record { length = 3 }) (8 ∷ []) [] ≡ record { number = 3; set = record { length = 3 }; words = 8 ∷ [] }
unfolding some words_of bit_of given length_question words_question stray_question questions positions_question digit
unsound = refl
