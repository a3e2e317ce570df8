-- The rule of each test and count of one set, and of `minimum` and `maximum`.
use Rattle.std.specs.Prelude.{List, ℕ, not}
use Rattle.sets.specs.Members.{read}
use Rattle.sets.specs.Questions.{questions, range_questions}
use Rattle.sets.specs.Outcomes.{Found, told, counted, found}
use Rattle.sets.specs.declared.fixed_bit_set.FixedBitSet.{FixedBitSet}
use Rattle.sets.specs.declared.answers.Told.{Told}
use Rattle.word_bits.specs.Counts.{some}
use Rattle.tests.specs.Tests.{all_in, any_in, ones_in, zeroes_in, least, greatest}
use Rattle.sets.specs.declared.answers.Counted.{Counted}

-- `contains` tells membership: no at or above L
abbrev pub contains_rule : FixedBitSet → List ℕ → ℕ → Told
contains_rule set ws bit = told (questions set ws) ((read ws set).has bit)

abbrev pub contains_all_rule : FixedBitSet → List ℕ → ℕ → ℕ → Told
contains_all_rule set ws start end = told (range_questions set ws start end) (all_in start end (read ws set))

abbrev pub contains_any_rule : FixedBitSet → List ℕ → ℕ → ℕ → Told
contains_any_rule set ws start end = told (range_questions set ws start end) (any_in start end (read ws set))

-- `is_full` is the first over the set
abbrev pub is_full_rule : FixedBitSet → List ℕ → Told
is_full_rule set ws = told (questions set ws) (all_in 0 set.length (read ws set))

-- `is_clear` is yes with no member
abbrev pub is_clear_rule : FixedBitSet → List ℕ → Told
is_clear_rule set ws = told (questions set ws) (not (some set.length (read ws set).has))

abbrev pub count_ones_rule : FixedBitSet → List ℕ → ℕ → ℕ → Counted
count_ones_rule set ws start end = counted (range_questions set ws start end) (ones_in start end (read ws set))

abbrev pub count_zeroes_rule : FixedBitSet → List ℕ → ℕ → ℕ → Counted
count_zeroes_rule set ws start end = counted (range_questions set ws start end) (zeroes_in start end (read ws set))

-- none exactly when the set has no member
abbrev pub minimum_rule : FixedBitSet → List ℕ → Found
minimum_rule set ws = found (questions set ws) (least (read ws set))

abbrev pub maximum_rule : FixedBitSet → List ℕ → Found
maximum_rule set ws = found (questions set ws) (greatest (read ws set))
