-- A history and the walks after it, computed from the definitions: calls that make A = {1, 70}, L = 71, and B = {0, 1}, L = 2. Assumes nothing.
use mathlib.Core.Path.{◌≡◌, refl}
use mathlib.Core.List.{[], ◌∷◌}
use Rattle.word_bits.specs.Counts.{zeros_below}
use Rattle.masks.specs.Ranges.{covers}
use Rattle.sets.specs.Members.{words_of, changed}
use Rattle.sets.specs.Outcomes.{given}
use Rattle.sets.specs.Questions.{position_question, positions_question, new_length_question, room_question, range_question}
use Rattle.edits.specs.Edits.{grown, is_in}
use Rattle.std.specs.Prelude.{Some, None}
use Rattle.two_set_counts.specs.Lists.{positions}
use Rattle.parts.specs.Steps.{front}
use Rattle.parts.specs.declared.records.End.TheVariants.{Front}
use Rattle.calls.specs.Calls.{leaves}
use Rattle.calls.specs.Encoding.{listed, decode_all}
use Rattle.calls.specs.History.{State, history, fresh_sets}
use Rattle.whole_walks.specs.Walks.{walk_list, answers, answers_from}
use Rattle.whole_walks.specs.declared.walk.Walk.TheVariants.{Union, SymmetricDifference}

-- on A the list 1, 1, a list with 65 that is refused, grow_and_insert 70; on B insert_range 0..2, a part that the list does not have, a number that is no call
made : State
made = history 2 1 (decode_all (1 ∷ 1 ∷ 0 ∷ 65 ∷ []) (0 ∷ 17 ∷ 0 ∷ 2 ∷ 0 ∷ 0 ∷ 17 ∷ 2 ∷ 4 ∷ 0 ∷ 0 ∷ 12 ∷ 70 ∷ 0 ∷ 0 ∷ 1 ∷ 6 ∷ 0 ∷ 2 ∷ 0 ∷ 1 ∷ 17 ∷ 0 ∷ 5 ∷ 0 ∷ 1 ∷ 18 ∷ 0 ∷ 0 ∷ 0 ∷ [])) (fresh_sets 65 2)

lengths : (made.a.len ≡ 71) × (made.b.len ≡ 2)
unfolding covers range_question words_of changed given position_question positions_question is_in listed new_length_question room_question grown leaves decode_all history made
lengths = (refl, refl)

union : walk_list Union made.a made.b ≡ (1 ∷ 70 ∷ 0 ∷ [])
unfolding covers range_question words_of changed given position_question positions_question is_in listed new_length_question room_question grown positions leaves decode_all history made
union = refl

symmetric_difference : answers SymmetricDifference made.a made.b (Front ∷ Front ∷ Front ∷ []) ≡ (Some 70 ∷ Some 0 ∷ None ∷ [])
unfolding zeros_below covers range_question words_of changed given position_question positions_question is_in listed new_length_question room_question grown front leaves decode_all history answers_from made
symmetric_difference = refl
