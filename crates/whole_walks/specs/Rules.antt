-- The rule of the count of a walk, that of the call of its name, and the rule of a whole walk.
use Rattle.std.specs.Prelude.{cond, List, ◌++◌, map, ℕ, ◌-◌, ◌^◌, eqb, leb, length, drop}
use Rattle.sets.specs.Members.{read}
use Rattle.sets.specs.Outcomes.{given}
use Rattle.sets.specs.Questions.{first, both_questions}
use Rattle.sets.specs.declared.fixed_bit_set.FixedBitSet.{FixedBitSet}
use Rattle.sets.specs.declared.answers.Counted.{Counted}
use Rattle.tests.specs.Rules.{count_ones_rule}
use Rattle.std.specs.Prelude.{Option}
use Rattle.std.specs.Prelude.{Some, None}
use Rattle.two_set_counts.specs.Rules.{union_count_rule, intersection_count_rule, difference_count_rule, symmetric_difference_count_rule}
use Rattle.parts.specs.declared.records.End.{End}
use Rattle.parts.specs.declared.records.End.TheVariants.{Front, Back}
use Rattle.whole_walks.specs.Walks.{walk_list, answers}
use Rattle.whole_walks.specs.declared.walk.Walk.{Walk}
use Rattle.whole_walks.specs.declared.walk.Walk.TheVariants.{Ones, Intersection, Difference, Union, SymmetricDifference}

-- `ones` is counted by `count_ones` over all of A, the others by the count of their name
abbrev pub walk_count_rule : FixedBitSet → List ℕ → FixedBitSet → List ℕ → Walk → Counted
walk_count_rule a ws b vs Ones = count_ones_rule a ws 0 a.length
walk_count_rule a ws b vs Intersection = intersection_count_rule a ws b vs
walk_count_rule a ws b vs Difference = difference_count_rule a ws b vs
walk_count_rule a ws b vs Union = union_count_rule a ws b vs
walk_count_rule a ws b vs SymmetricDifference = symmetric_difference_count_rule a ws b vs

-- a step is one at the front for 0, and one at the back for any other number
abbrev pub end_of : ℕ → End
end_of n = cond (eqb n 0) Front Back

-- an answer as a word: its position, or 2 ^ 64 - 1 for none
abbrev pub answer_word : Option ℕ → ℕ
answer_word (Some p) = p
answer_word None = 2 ^ 64 - 1

abbrev pub answer_of : ℕ → Option ℕ
answer_of x = cond (eqb x (2 ^ 64 - 1)) None (Some x)

-- 7, of the buffer for the answers: a word for each step
unfoldable pub answers_question : ℕ → ℕ → ℕ
answers_question steps size = cond (leb steps size) 0 7

-- of a whole walk: its number, its count and the buffer for the answers after it
pub record WalkOutcome : Type 0 where
  pub number : ℕ
  pub count : ℕ
  pub out : List ℕ

abbrev pub walk_outcome : Counted → List ℕ → WalkOutcome
walk_outcome r out = record { number = r.number; count = r.count; out = out }

-- questions 1 to 3 of A, then of B, then 7; refused, no word is written
abbrev pub walk_rule : FixedBitSet → List ℕ → FixedBitSet → List ℕ → Walk → List ℕ → List ℕ → WalkOutcome
walk_rule a ws b vs walk steps out =
    given (first (both_questions a ws b vs) (answers_question (length steps) (length out))) (λ m. record { number = m; count = 0; out = out })
    (record {
      number = 0;
      count = length (walk_list walk (read ws a) (read vs b));
      out = map answer_word (answers walk (read ws a) (read vs b) (map end_of steps)) ++ drop (length steps) out;
    })
