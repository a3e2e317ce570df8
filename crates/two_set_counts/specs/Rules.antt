-- The rule of each count of two sets: a over ws, b over vs. Questions 1 to 3 of the first set, then of the second.
use Rattle.std.specs.Prelude.{List, ℕ, length}
use Rattle.sets.specs.Members.{read}
use Rattle.sets.specs.Outcomes.{counted}
use Rattle.sets.specs.declared.fixed_bit_set.FixedBitSet.{FixedBitSet}
use Rattle.sets.specs.declared.answers.Counted.{Counted}
use Rattle.sets.specs.Questions.{both_questions}
use Rattle.two_set_counts.specs.Lists.{union_list, intersection_list, difference_list, symmetric_difference_list}

-- each count is the size of the list of that name
abbrev pub union_count_rule : FixedBitSet → List ℕ → FixedBitSet → List ℕ → Counted
union_count_rule a ws b vs = counted (both_questions a ws b vs) (length (union_list (read ws a) (read vs b)))

abbrev pub intersection_count_rule : FixedBitSet → List ℕ → FixedBitSet → List ℕ → Counted
intersection_count_rule a ws b vs = counted (both_questions a ws b vs) (length (intersection_list (read ws a) (read vs b)))

abbrev pub difference_count_rule : FixedBitSet → List ℕ → FixedBitSet → List ℕ → Counted
difference_count_rule a ws b vs = counted (both_questions a ws b vs) (length (difference_list (read ws a) (read vs b)))

abbrev pub symmetric_difference_count_rule : FixedBitSet → List ℕ → FixedBitSet → List ℕ → Counted
symmetric_difference_count_rule a ws b vs = counted (both_questions a ws b vs) (length (symmetric_difference_list (read ws a) (read vs b)))
