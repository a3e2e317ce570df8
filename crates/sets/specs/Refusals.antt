-- The numbers of the questions, and what a call gives as the specification has it: a number beside its answer.
use Rattle.std.specs.Prelude.{Bool, false, ℕ, Option, None, Result, Ok, Err}
use Rattle.sets.specs.declared.fixed_bit_set.FixedBitSet.{FixedBitSet}
use Rattle.sets.specs.declared.answers.Edited.{Edited}
use Rattle.sets.specs.declared.answers.Told.{Told}
use Rattle.sets.specs.declared.answers.Counted.{Counted}
use Rattle.sets.specs.Outcomes.{Found}
use Rattle.sets.specs.declared.refusal.Refusal.{Refusal}
use Rattle.sets.specs.declared.refusal.Refusal.TheVariants.{Length, Words, StrayBits, Position, Range, NewLength, Room, Record, SharedOld, SharedNew, NoPair}

-- the number of each question
abbrev pub number : Refusal → ℕ
number Length = 1
number Words = 2
number StrayBits = 3
number Position = 4
number Range = 5
number NewLength = 6
number Room = 7
number Record = 8
number SharedOld = 10
number SharedNew = 11
number NoPair = 12

-- accepted calls give number 0
abbrev pub number_of : {A : Type 0} → Result A Refusal → ℕ
number_of (Ok x) = 0
number_of (Err r) = number r

-- of a refused call, what stands beside its number; of an accepted one, what its value makes
abbrev pub answer_of : {A B : Type 0} → (ℕ → B) → (A → B) → Result A Refusal → B
answer_of refused accepted (Ok x) = accepted x
answer_of refused accepted (Err r) = refused (number r)

-- a refused test says no
abbrev pub told_of : Result Bool Refusal → Told
told_of = answer_of (λ m. record { number = m; yes = false }) (λ b. record { number = 0; yes = b })

-- a refused count is 0
abbrev pub counted_of : Result ℕ Refusal → Counted
counted_of = answer_of (λ m. record { number = m; count = 0 }) (λ n. record { number = 0; count = n })

-- a refused position is none
abbrev pub found_of : Result (Option ℕ) Refusal → Found
found_of = answer_of (λ m. record { number = m; at = None }) (λ at. record { number = 0; at = at })

-- a refused edit leaves the set as handed in
abbrev pub edited_of : FixedBitSet → Result FixedBitSet Refusal → Edited
edited_of set = answer_of (λ m. record { number = m; set = set }) (λ after. record { number = 0; set = after })
