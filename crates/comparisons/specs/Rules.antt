-- The rule of each comparison: a over ws, b over vs. Questions 1 to 3 of the first set, then of the second, in the order of the arguments.
use Rattle.std.specs.Prelude.{List, ℕ, cond, ltb}
use Rattle.sets.specs.Members.{read, words_of}
use Rattle.sets.specs.Outcomes.{told, given}
use Rattle.sets.specs.declared.fixed_bit_set.FixedBitSet.{FixedBitSet}
use Rattle.sets.specs.declared.answers.Told.{Told}
use Rattle.sets.specs.Questions.{both_questions}
use Rattle.sets.specs.Rules.{SlicePart, first_words}
use Rattle.comparisons.specs.Relations.{disjoint, subset}
use Rattle.comparisons.specs.Orders.{equal, order}
use Rattle.comparisons.specs.declared.orders.Compared.{Compared}
use Rattle.std.specs.Borrow.{Bor}

abbrev pub is_disjoint_rule : FixedBitSet → List ℕ → FixedBitSet → List ℕ → Told
is_disjoint_rule a ws b vs = told (both_questions a ws b vs) (disjoint (read ws a) (read vs b))

abbrev pub is_subset_rule : FixedBitSet → List ℕ → FixedBitSet → List ℕ → Told
is_subset_rule a ws b vs = told (both_questions a ws b vs) (subset (read ws a) (read vs b))

-- the reverse, with the questions in the order of the arguments
abbrev pub is_superset_rule : FixedBitSet → List ℕ → FixedBitSet → List ℕ → Told
is_superset_rule a ws b vs = told (both_questions a ws b vs) (subset (read vs b) (read ws a))

abbrev pub eq_rule : FixedBitSet → List ℕ → FixedBitSet → List ℕ → Told
eq_rule a ws b vs = told (both_questions a ws b vs) (equal (read ws a) (read vs b))

abbrev pub cmp_rule : FixedBitSet → List ℕ → FixedBitSet → List ℕ → Compared
cmp_rule a ws b vs = given (both_questions a ws b vs) (λ m. record { number = m; order = 0 }) (record { number = 0; order = order (read ws a) (read vs b) })

-- the first W words of the longer set as a part of its own slice, the second's for equal lengths; refused, the empty part of the first slice
abbrev pub longer_rule : FixedBitSet → Bor (List ℕ) → FixedBitSet → Bor (List ℕ) → SlicePart
longer_rule a words b other = given (both_questions a words.now b other.now) (λ m. first_words words 0)
    (cond (ltb b.length a.length) (first_words words (words_of a.length)) (first_words other (words_of b.length)))
