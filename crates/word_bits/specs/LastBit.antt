-- The lowest-bit helper.
use Rattle.std.specs.Prelude.{ℕ, Option, None, Some, cond, not, ◌&&◌, ◌==◌}
use Rattle.word_bits.specs.Digits.{digit, number}
use Rattle.word_bits.specs.Counts.{zeros_below}
use Rattle.word_bits.specs.declared.last_bit.LastBit.{LastBit}

-- question 9: is the helper's word other than 0?
abbrev pub word_question : ℕ → ℕ
word_question word = cond (word == 0) 9 0

-- the word without its digit at a position
unfoldable pub unset : ℕ → ℕ → ℕ
unset word at = number 64 (λ j. digit word j && not (j == at))

-- an answer as a record: none refuses a word of 0
abbrev pub last_bit : Option (ℕ × ℕ) → LastBit
last_bit None = record { number = 9; position = 0; rest = 0 }
last_bit (Some b) = record { number = 0; position = b.0; rest = b.1 }

-- the position of the lowest set bit, and the word without that bit; both 0 for a refused word
abbrev pub last_bit_rule : ℕ → LastBit
last_bit_rule word = cond (word == 0)
    (record { number = word_question word; position = 0; rest = 0 })
    (record { number = word_question word; position = zeros_below 64 (digit word); rest = unset word (zeros_below 64 (digit word)) })
