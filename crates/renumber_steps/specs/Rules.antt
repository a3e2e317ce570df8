-- The rule of `renumber`: its questions in order, and what it leaves.
use Rattle.std.specs.Prelude.{cond, ◌&&◌, not, List, ℕ, length}
use Rattle.word_bits.specs.Counts.{some}
use Rattle.sets.specs.Members.{Members, read, set_of, empty}
use Rattle.sets.specs.Questions.{first, questions, new_questions, positions_question}
use Rattle.sets.specs.Outcomes.{Outcome, edited}
use Rattle.sets.specs.declared.fixed_bit_set.FixedBitSet.{FixedBitSet}
use Rattle.edits.specs.Edits.{is_in}
use Rattle.renumber_steps.specs.Pairs.{olds, news, repeats, renumbered}
use Rattle.renumber_steps.specs.declared.pair.Pair.{Pair}

-- 10. Do no two pairs share an old offset?
unfoldable pub olds_question : List Pair → ℕ
olds_question pairs = cond (repeats (olds pairs)) 10 0

-- 11. Do no two pairs share a new offset?
unfoldable pub news_question : List Pair → ℕ
news_question pairs = cond (repeats (news pairs)) 11 0

-- 12. Has every member a pair?
unfoldable pub members_question : List Pair → Members → ℕ
members_question pairs s = cond (some s.len (λ p. s.has p && not (is_in (olds pairs) p))) 12 0

-- 10, 11, then 4 of every new offset, then 12
abbrev pub pairs_questions : List Pair → ℕ → Members → ℕ
pairs_questions pairs n s = first (olds_question pairs) (first (news_question pairs) (first (positions_question (set_of (empty n)) (news pairs)) (members_question pairs s)))

-- 1 to 3 of the old set, 6 and 7 of the new one, then those of the pairs
abbrev pub renumber_questions : FixedBitSet → List ℕ → List Pair → ℕ → ℕ → ℕ
renumber_questions set ws pairs n size = first (first (questions set ws) (new_questions n size)) (pairs_questions pairs n (read ws set))

-- refused, the new set has length 0 and every word of the buffer is as it was
abbrev pub renumber_rule : FixedBitSet → List ℕ → List Pair → ℕ → List ℕ → Outcome
renumber_rule set ws pairs n vs = edited (renumber_questions set ws pairs n (length vs)) (set_of (empty 0)) vs (renumbered pairs n (read ws set))
