-- Every line of the table is what the definitions answer: one computation for all of it. Assumes nothing.
use mathlib.Core.Path.{◌≡◌, refl}
use mathlib.Core.List.{map}
use Rattle.word_bits.specs.Counts.{count, some, all, zeros_below, zeros_above}
use Rattle.word_bits.specs.Digits.{digit, number, word_of}
use Rattle.word_bits.specs.LastBit.{unset}
use Rattle.masks.specs.Ranges.{covers}
use Rattle.sets.specs.Members.{words_of, bit_of, read, write, changed}
use Rattle.sets.specs.Outcomes.{given}
use Rattle.sets.specs.Questions.{length_question, words_question, stray_question, questions, position_question, room_question, range_question, both_questions}
use Rattle.two_sets.specs.Combined.{combined}
use Rattle.two_set_counts.specs.Lists.{positions}
use Rattle.parts.specs.Steps.{front, back}
use Rattle.sets.specs.Questions.{part_question}
use Rattle.whole_walks.specs.Walks.{answers_from}
use Rattle.whole_walks.specs.Rules.{answers_question}
use Rattle.checked_lines.specs.Asked.{answer, steps_from}
use Rattle.checked_lines.specs.Table.{Line, table}

table_holds : map (λ (l : Line). answer l.asked) table ≡ map (λ (l : Line). l.expected) table
unfolding count some all zeros_below zeros_above digit number word_of unset covers range_question words_of bit_of read write changed given length_question words_question stray_question questions position_question room_question combined both_questions positions front back part_question answers_from answers_question steps_from
table_holds = refl
