-- The rule of each edit: its questions in order, and what it leaves.
use Rattle.std.specs.Prelude.{Bool, false, List, ℕ, ◌+◌, max, length, Result}
use Rattle.sets.specs.Members.{Members, read}
use Rattle.sets.specs.Questions.{first, questions, new_questions, positions_question, position_questions, range_questions}
use Rattle.sets.specs.Outcomes.{Outcome, given, edited}
use Rattle.sets.specs.Refusals.{answer_of}
use Rattle.sets.specs.declared.refusal.Refusal.{Refusal}
use Rattle.sets.specs.declared.fixed_bit_set.FixedBitSet.{FixedBitSet}
use Rattle.edits.specs.Edits.{inserted, removed, toggled, assigned, copied, inserted_all, inserted_range, removed_range, toggled_range, assigned_range, cleared, grown, grown_and_inserted}
use Rattle.edits.specs.declared.positions.Replaced.{Replaced}

-- 1 to 3, then 4
abbrev pub at_position : FixedBitSet → List ℕ → ℕ → Members → Outcome
at_position set ws bit s = edited (position_questions set ws bit) set ws s

abbrev pub insert_rule : FixedBitSet → List ℕ → ℕ → Outcome
insert_rule set ws bit = at_position set ws bit (inserted bit (read ws set))

abbrev pub remove_rule : FixedBitSet → List ℕ → ℕ → Outcome
remove_rule set ws bit = at_position set ws bit (removed bit (read ws set))

abbrev pub toggle_rule : FixedBitSet → List ℕ → ℕ → Outcome
toggle_rule set ws bit = at_position set ws bit (toggled bit (read ws set))

abbrev pub set_rule : FixedBitSet → List ℕ → ℕ → Bool → Outcome
set_rule set ws bit enabled = at_position set ws bit (assigned bit enabled (read ws set))

abbrev pub copy_bit_rule : FixedBitSet → List ℕ → ℕ → ℕ → Outcome
copy_bit_rule set ws from to = at_position set ws to (copied from to (read ws set))

-- `put` inserts and tells what was there
pub record PutOutcome : Type 0 where
  pub edit : Outcome
  pub was : Bool

abbrev pub put_outcome : Replaced → List ℕ → PutOutcome
put_outcome r ws = record { edit = record { number = r.number; set = r.set; words = ws }; was = r.was }

-- a refused `put` leaves the set as handed in, and tells no
abbrev pub replaced_of : FixedBitSet → Result (FixedBitSet × Bool) Refusal → Replaced
replaced_of set = answer_of (λ m. record { number = m; set = set; was = false }) (λ after. record { number = 0; set = after.0; was = after.1 })

abbrev pub put_rule : FixedBitSet → List ℕ → ℕ → PutOutcome
put_rule set ws bit = record {
  edit = insert_rule set ws bit;
  was = given (position_questions set ws bit) (λ m. false) ((read ws set).has bit);
}

-- 1 to 3, then 4 of every position
abbrev pub insert_all_rule : FixedBitSet → List ℕ → List ℕ → Outcome
insert_all_rule set ws ps = edited (first (questions set ws) (positions_question set ps)) set ws (inserted_all ps (read ws set))

-- 1 to 3, then 5
abbrev pub over_range : FixedBitSet → List ℕ → ℕ → ℕ → Members → Outcome
over_range set ws start end s = edited (range_questions set ws start end) set ws s

abbrev pub insert_range_rule : FixedBitSet → List ℕ → ℕ → ℕ → Outcome
insert_range_rule set ws start end = over_range set ws start end (inserted_range start end (read ws set))

abbrev pub remove_range_rule : FixedBitSet → List ℕ → ℕ → ℕ → Outcome
remove_range_rule set ws start end = over_range set ws start end (removed_range start end (read ws set))

abbrev pub toggle_range_rule : FixedBitSet → List ℕ → ℕ → ℕ → Outcome
toggle_range_rule set ws start end = over_range set ws start end (toggled_range start end (read ws set))

abbrev pub set_range_rule : FixedBitSet → List ℕ → ℕ → ℕ → Bool → Outcome
set_range_rule set ws start end enabled = over_range set ws start end (assigned_range start end enabled (read ws set))

-- 1 to 3
abbrev pub clear_rule : FixedBitSet → List ℕ → Outcome
clear_rule set ws = edited (questions set ws) set ws (cleared (read ws set))

-- 1 to 3, then 6 and 7 of the new length
abbrev pub grow_rule : FixedBitSet → List ℕ → ℕ → Outcome
grow_rule set ws n = edited (first (questions set ws) (new_questions (max set.length n) (length ws))) set ws (grown n (read ws set))

abbrev pub grow_and_insert_rule : FixedBitSet → List ℕ → ℕ → Outcome
grow_and_insert_rule set ws b =
    edited (first (questions set ws) (new_questions (max set.length (b + 1)) (length ws))) set ws (grown_and_inserted b (read ws set))
