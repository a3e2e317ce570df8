-- The calls of a history: which are refused, and what an accepted one leaves, position by position.
use Rattle.std.specs.Prelude.{Bool, List, ℕ, ◌+◌, max}
use Rattle.sets.specs.Members.{Members, set_of}
use Rattle.sets.specs.Outcomes.{given}
use Rattle.sets.specs.Questions.{position_question, positions_question, new_questions, room_question, range_question}
use Rattle.edits.specs.Edits.{inserted, removed, toggled, assigned, copied, inserted_all, inserted_range, removed_range, toggled_range, assigned_range, cleared, grown, grown_and_inserted}
use Rattle.two_sets.specs.Combined.{unioned, symmetrically_differed, intersected, differed}

-- the edits from `insert` to `grow_and_insert`, the four `.._with` calls and `insert_all`
pub data Call : Type 0 where
  Insert : ℕ → Call
  Remove : ℕ → Call
  Put : ℕ → Call
  Toggle : ℕ → Call
  Set : ℕ → Bool → Call
  CopyBit : ℕ → ℕ → Call
  InsertRange : ℕ → ℕ → Call
  RemoveRange : ℕ → ℕ → Call
  ToggleRange : ℕ → ℕ → Call
  SetRange : ℕ → ℕ → Bool → Call
  Clear : Call
  Grow : ℕ → Call
  GrowAndInsert : ℕ → Call
  UnionWith : Call
  IntersectWith : Call
  DifferenceWith : Call
  SymmetricDifferenceWith : Call
  InsertAll : List ℕ → Call

-- the number of a call on s with o read, where the buffer of s has `size` words; questions 1 to 3 never say no here
abbrev pub refusal : Call → ℕ → Members → Members → ℕ
refusal (Insert bit) size s o = position_question (set_of s) bit
refusal (Remove bit) size s o = position_question (set_of s) bit
refusal (Put bit) size s o = position_question (set_of s) bit
refusal (Toggle bit) size s o = position_question (set_of s) bit
refusal (Set bit enabled) size s o = position_question (set_of s) bit
refusal (CopyBit from to) size s o = position_question (set_of s) to
refusal (InsertRange start end) size s o = range_question start end s.len
refusal (RemoveRange start end) size s o = range_question start end s.len
refusal (ToggleRange start end) size s o = range_question start end s.len
refusal (SetRange start end enabled) size s o = range_question start end s.len
refusal Clear size s o = 0
refusal (Grow n) size s o = new_questions (max s.len n) size
refusal (GrowAndInsert bit) size s o = new_questions (max s.len (bit + 1)) size
refusal UnionWith size s o = room_question (max s.len o.len) size
refusal IntersectWith size s o = 0
refusal DifferenceWith size s o = 0
refusal SymmetricDifferenceWith size s o = room_question (max s.len o.len) size
refusal (InsertAll ps) size s o = positions_question (set_of s) ps

-- what an accepted call leaves
abbrev pub done : Call → Members → Members → Members
done (Insert bit) s o = inserted bit s
done (Remove bit) s o = removed bit s
done (Put bit) s o = inserted bit s
done (Toggle bit) s o = toggled bit s
done (Set bit enabled) s o = assigned bit enabled s
done (CopyBit from to) s o = copied from to s
done (InsertRange start end) s o = inserted_range start end s
done (RemoveRange start end) s o = removed_range start end s
done (ToggleRange start end) s o = toggled_range start end s
done (SetRange start end enabled) s o = assigned_range start end enabled s
done Clear s o = cleared s
done (Grow n) s o = grown n s
done (GrowAndInsert bit) s o = grown_and_inserted bit s
done UnionWith s o = unioned s o
done IntersectWith s o = intersected s o
done DifferenceWith s o = differed s o
done SymmetricDifferenceWith s o = symmetrically_differed s o
done (InsertAll ps) s o = inserted_all ps s

-- a refused call does nothing
unfoldable pub leaves : Call → ℕ → Members → Members → Members
leaves call size s o = given (refusal call size s o) (λ m. s) (done call s o)
