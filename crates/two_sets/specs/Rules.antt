-- The rule of each operation on two sets: a over ws, b over vs.
use Rattle.std.specs.Prelude.{List, ℕ, max, min, length}
use Rattle.sets.specs.Questions.{both_questions, join_questions}
use Rattle.sets.specs.declared.fixed_bit_set.FixedBitSet.{FixedBitSet}
use Rattle.sets.specs.Members.{read, Members, empty, set_of}
use Rattle.sets.specs.Outcomes.{Outcome, edited}
use Rattle.two_sets.specs.Combined.{unioned, symmetrically_differed, intersected, differed, meet}

-- in place, with the length made the larger of the two, or kept
abbrev pub growing_with : FixedBitSet → List ℕ → FixedBitSet → List ℕ → Members → Outcome
growing_with a ws b vs s = edited (join_questions a ws b vs (max a.length b.length) (length ws)) a ws s

abbrev pub keeping_with : FixedBitSet → List ℕ → FixedBitSet → List ℕ → Members → Outcome
keeping_with a ws b vs s = edited (both_questions a ws b vs) a ws s

abbrev pub union_with_rule : FixedBitSet → List ℕ → FixedBitSet → List ℕ → Outcome
union_with_rule a ws b vs = growing_with a ws b vs (unioned (read ws a) (read vs b))

abbrev pub symmetric_difference_with_rule : FixedBitSet → List ℕ → FixedBitSet → List ℕ → Outcome
symmetric_difference_with_rule a ws b vs = growing_with a ws b vs (symmetrically_differed (read ws a) (read vs b))

abbrev pub intersect_with_rule : FixedBitSet → List ℕ → FixedBitSet → List ℕ → Outcome
intersect_with_rule a ws b vs = keeping_with a ws b vs (intersected (read ws a) (read vs b))

abbrev pub difference_with_rule : FixedBitSet → List ℕ → FixedBitSet → List ℕ → Outcome
difference_with_rule a ws b vs = keeping_with a ws b vs (differed (read ws a) (read vs b))

-- into a third buffer: 7 of the result's length; a refused result has length 0
abbrev pub third_buffer : FixedBitSet → List ℕ → FixedBitSet → List ℕ → ℕ → List ℕ → Members → Outcome
third_buffer a ws b vs n out s = edited (join_questions a ws b vs n (length out)) (set_of (empty 0)) out s

abbrev pub bitand_rule : FixedBitSet → List ℕ → FixedBitSet → List ℕ → List ℕ → Outcome
bitand_rule a ws b vs out = third_buffer a ws b vs (min a.length b.length) out (meet (read ws a) (read vs b))

abbrev pub bitor_rule : FixedBitSet → List ℕ → FixedBitSet → List ℕ → List ℕ → Outcome
bitor_rule a ws b vs out = third_buffer a ws b vs (max a.length b.length) out (unioned (read ws a) (read vs b))

abbrev pub bitxor_rule : FixedBitSet → List ℕ → FixedBitSet → List ℕ → List ℕ → Outcome
bitxor_rule a ws b vs out = third_buffer a ws b vs (max a.length b.length) out (symmetrically_differed (read ws a) (read vs b))
