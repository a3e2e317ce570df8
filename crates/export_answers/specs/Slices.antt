-- A part of a lent slice, by its offset and count.
use Rattle.std.specs.Prelude.{false, List, ℕ, max, leb}
use Rattle.sets.specs.Members.{words_of}
use Rattle.sets.specs.Outcomes.{given}
use Rattle.sets.specs.Questions.{questions, both_questions}
use Rattle.sets.specs.declared.fixed_bit_set.FixedBitSet.{FixedBitSet}
use Rattle.export_answers.specs.declared.answers.FbsSlice.{FbsSlice}
use Rattle.export_answers.specs.declared.answers.FbsLonger.{FbsLonger}

-- the first W words, none where refused
abbrev pub export_slice : FixedBitSet → List ℕ → FbsSlice
export_slice set ws = given (questions set ws) (λ m. record { offset = 0; count = 0 }) (record { offset = 0; count = words_of set.length })

-- the first W words of the longer set, from the second slice for equal lengths; none of the first slice where refused
abbrev pub export_longer : FixedBitSet → List ℕ → FixedBitSet → List ℕ → FbsLonger
export_longer a ws b vs = given (both_questions a ws b vs) (λ m. record { second = false; offset = 0; count = 0 })
    (record { second = leb a.length b.length; offset = 0; count = words_of (max a.length b.length) })
