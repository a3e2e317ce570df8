-- The rules of `len`, `is_empty` and `as_slice`.
use Rattle.std.specs.Prelude.{List, ℕ, eqb, take, length}
use Rattle.std.specs.Borrow.{Bor}
use Rattle.sets.specs.Members.{words_of, empty, read, set_of}
use Rattle.sets.specs.Questions.{questions, new_questions}
use Rattle.sets.specs.Outcomes.{given, told, counted, Outcome, edited}
use Rattle.sets.specs.declared.fixed_bit_set.FixedBitSet.{FixedBitSet}
use Rattle.sets.specs.declared.answers.Told.{Told}
use Rattle.sets.specs.declared.answers.Counted.{Counted}

-- `len` gives L
abbrev pub len_rule : FixedBitSet → List ℕ → Counted
len_rule set ws = counted (questions set ws) set.length

-- a set of no bits
abbrev pub is_empty_rule : FixedBitSet → List ℕ → Told
is_empty_rule set ws = told (questions set ws) (eqb set.length 0)

-- a part of a lent slice: the place where it starts, and its words
pub record SlicePart : Type 0 where
  pub start : ℕ × ℕ
  pub words : List ℕ

abbrev pub slice_part : Bor (List ℕ) → SlicePart
slice_part r = record { start = r.ref_ptr; words = r.now }

-- the first n words of a lent slice, from the slice's own start
abbrev pub first_words : Bor (List ℕ) → ℕ → SlicePart
first_words slice n = record { start = slice.ref_ptr; words = take n slice.now }

-- the first W words as a part of the lent slice, the empty part of it where refused
abbrev pub as_slice_rule : FixedBitSet → Bor (List ℕ) → SlicePart
as_slice_rule set slice = given (questions set slice.now) (λ m. first_words slice 0) (first_words slice (words_of set.length))

-- a fresh set of n bits has no members; refused, its length is 0
abbrev pub with_capacity_rule : ℕ → List ℕ → Outcome
with_capacity_rule n ws = edited (new_questions n (length ws)) (set_of (empty 0)) ws (empty n)

-- the blocks copied, missing ones 0, further ones ignored, the bits from n up cleared
abbrev pub with_capacity_and_blocks_rule : ℕ → List ℕ → List ℕ → Outcome
with_capacity_and_blocks_rule n blocks ws = edited (new_questions n (length ws)) (set_of (empty 0)) ws (read blocks (set_of (empty n)))
