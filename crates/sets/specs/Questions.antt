-- The questions before any work: each is 0 for yes, and its number for no. Question 9 is asked of the helper's word and stands with it, in word_bits.
use Rattle.std.specs.Prelude.{cond, ◌&&◌, List, [], ◌∷◌, ℕ, ◌*◌, eqb, leb, ltb, length}
use Rattle.word_bits.specs.Counts.{some}
use Rattle.sets.specs.Members.{words_of, bit_of}
use Rattle.sets.specs.declared.fixed_bit_set.FixedBitSet.{FixedBitSet}
use Rattle.sets.specs.declared.answers.Part.{Part}

-- the first "no" gives the number
abbrev pub first : ℕ → ℕ → ℕ
first a b = cond (eqb a 0) b a

-- 1. Is the length at most 65,536?
unfoldable pub length_question : FixedBitSet → ℕ
length_question set = cond (leb set.length 65536) 0 1

-- 2. Does the lent slice have W words?
unfoldable pub words_question : FixedBitSet → List ℕ → ℕ
words_question set ws = cond (leb (words_of set.length) (length ws)) 0 2

-- 3. Are all bits from L up in the first W words 0?
unfoldable pub stray_question : FixedBitSet → List ℕ → ℕ
stray_question set ws = cond (some (words_of set.length * 64) (λ p. leb set.length p && bit_of ws p)) 3 0

-- 1 to 3, which every call asks of every set
unfoldable pub questions : FixedBitSet → List ℕ → ℕ
questions set ws = first (length_question set) (first (words_question set ws) (stray_question set ws))

-- 4. Is the position to be changed below L?
unfoldable pub position_question : FixedBitSet → ℕ → ℕ
position_question set p = cond (ltb p set.length) 0 4

-- 4 of a list of positions: is each of them below L?
unfoldable pub positions_question : FixedBitSet → List ℕ → ℕ
positions_question set [] = 0
positions_question set (p ∷ ps) = first (position_question set p) (positions_question set ps)

-- 5. Is start <= end and end <= L?
unfoldable pub range_question : ℕ → ℕ → ℕ → ℕ
range_question start end len = cond (leb start end && leb end len) 0 5

-- 6. Is the new length at most 65,536?
unfoldable pub new_length_question : ℕ → ℕ
new_length_question n = cond (leb n 65536) 0 6

-- 7. Does the buffer to be written have the words for the new length?
unfoldable pub room_question : ℕ → ℕ → ℕ
room_question n size = cond (leb (words_of n) size) 0 7

-- 8. Is low <= high <= the length of that part's set?
unfoldable pub part_question : FixedBitSet → Part → ℕ
part_question set part = cond (leb part.low part.high && leb part.high set.length) 0 8

-- ---- the questions of a call, in order

-- of a position to be changed
abbrev pub position_questions : FixedBitSet → List ℕ → ℕ → ℕ
position_questions set ws bit = first (questions set ws) (position_question set bit)

-- of a range
abbrev pub range_questions : FixedBitSet → List ℕ → ℕ → ℕ → ℕ
range_questions set ws start end = first (questions set ws) (range_question start end set.length)

-- of a step over one set
abbrev pub part_questions : FixedBitSet → List ℕ → Part → ℕ
part_questions set ws part = first (questions set ws) (part_question set part)

-- 6 and 7, of a new length and the number of words lent for it
abbrev pub new_questions : ℕ → ℕ → ℕ
new_questions n size = first (new_length_question n) (room_question n size)

-- of two sets, a over ws and b over vs: 1 to 3 of the first, then of the second
unfoldable pub both_questions : FixedBitSet → List ℕ → FixedBitSet → List ℕ → ℕ
both_questions a ws b vs = first (questions a ws) (questions b vs)

-- then 7, of a length n of the result and the number of words lent for it
abbrev pub join_questions : FixedBitSet → List ℕ → FixedBitSet → List ℕ → ℕ → ℕ → ℕ
join_questions a ws b vs n size = first (both_questions a ws b vs) (room_question n size)

-- of a step over two sets: 8 of each part, first part first
abbrev pub two_questions : FixedBitSet → List ℕ → FixedBitSet → List ℕ → Part → ℕ
two_questions a ws b vs part = first (both_questions a ws b vs) (part_question a part)

abbrev pub pair_questions : FixedBitSet → List ℕ → FixedBitSet → List ℕ → Part → Part → ℕ
pair_questions a ws b vs one two = first (both_questions a ws b vs) (first (part_question a one) (part_question b two))
