-- The rule of a call, that of the function of its name, and the rule of a list of calls run one after the other.
use Rattle.std.specs.Prelude.{List, ℕ, length, Option as Decoded, None, Some, Result}
use Rattle.std.proofs.Math.Option.{Option, none, some}
use Rattle.sets.specs.Members.{read, write, set_of}
use Rattle.sets.specs.Outcomes.{Outcome, given}
use Rattle.sets.specs.Refusals.{answer_of}
use Rattle.sets.specs.declared.refusal.Refusal.{Refusal}
use Rattle.sets.specs.declared.fixed_bit_set.FixedBitSet.{FixedBitSet}
use Rattle.edits.specs.Rules.{insert_rule, remove_rule, toggle_rule, set_rule, copy_bit_rule, put_rule}
use Rattle.edits.specs.Rules.{insert_range_rule, remove_range_rule, toggle_range_rule, set_range_rule}
use Rattle.edits.specs.Rules.{clear_rule, grow_rule, grow_and_insert_rule, insert_all_rule}
use Rattle.sets.specs.Questions.{both_questions}
use Rattle.two_sets.specs.Rules.{union_with_rule, intersect_with_rule, difference_with_rule, symmetric_difference_with_rule}
use Rattle.calls.specs.Calls.{Call, Insert, Remove, Put, Toggle, Set, CopyBit, InsertRange, RemoveRange, ToggleRange, SetRange, Clear, Grow, GrowAndInsert, UnionWith, IntersectWith, DifferenceWith, SymmetricDifferenceWith, InsertAll}
use Rattle.calls.specs.History.{State, history}
use Rattle.calls.specs.Encoding.{decode_all}
use Rattle.calls.specs.declared.call.Call.{Call as Coded}
use Rattle.calls.specs.declared.call.Call.TheVariants as coded

-- what a decoded call means
abbrev pub meant : Coded → Call
meant (coded.Insert bit) = Insert bit
meant (coded.Remove bit) = Remove bit
meant (coded.Put bit) = Put bit
meant (coded.Toggle bit) = Toggle bit
meant (coded.Set bit enabled) = Set bit enabled
meant (coded.CopyBit from to) = CopyBit from to
meant (coded.InsertRange start end) = InsertRange start end
meant (coded.RemoveRange start end) = RemoveRange start end
meant (coded.ToggleRange start end) = ToggleRange start end
meant (coded.SetRange start end enabled) = SetRange start end enabled
meant coded.Clear = Clear
meant (coded.Grow n) = Grow n
meant (coded.GrowAndInsert bit) = GrowAndInsert bit
meant coded.UnionWith = UnionWith
meant coded.IntersectWith = IntersectWith
meant coded.DifferenceWith = DifferenceWith
meant coded.SymmetricDifferenceWith = SymmetricDifferenceWith
meant (coded.InsertAll ps) = InsertAll ps.now

abbrev pub meant_by : Decoded Coded → Option Call
meant_by None = none
meant_by (Some call) = some (meant call)

abbrev pub call_rule : FixedBitSet → List ℕ → FixedBitSet → List ℕ → Call → Outcome
call_rule set ws o vs (Insert bit) = insert_rule set ws bit
call_rule set ws o vs (Remove bit) = remove_rule set ws bit
call_rule set ws o vs (Put bit) = (put_rule set ws bit).edit
call_rule set ws o vs (Toggle bit) = toggle_rule set ws bit
call_rule set ws o vs (Set bit enabled) = set_rule set ws bit enabled
call_rule set ws o vs (CopyBit from to) = copy_bit_rule set ws from to
call_rule set ws o vs (InsertRange start end) = insert_range_rule set ws start end
call_rule set ws o vs (RemoveRange start end) = remove_range_rule set ws start end
call_rule set ws o vs (ToggleRange start end) = toggle_range_rule set ws start end
call_rule set ws o vs (SetRange start end enabled) = set_range_rule set ws start end enabled
call_rule set ws o vs Clear = clear_rule set ws
call_rule set ws o vs (Grow n) = grow_rule set ws n
call_rule set ws o vs (GrowAndInsert bit) = grow_and_insert_rule set ws bit
call_rule set ws o vs UnionWith = union_with_rule set ws o vs
call_rule set ws o vs IntersectWith = intersect_with_rule set ws o vs
call_rule set ws o vs DifferenceWith = difference_with_rule set ws o vs
call_rule set ws o vs SymmetricDifferenceWith = symmetric_difference_with_rule set ws o vs
call_rule set ws o vs (InsertAll ps) = insert_all_rule set ws ps

-- no call leaves everything as it was
abbrev pub decoded_rule : FixedBitSet → List ℕ → FixedBitSet → List ℕ → Option Call → Outcome
decoded_rule set ws o vs none = record { number = 0; set = set; words = ws }
decoded_rule set ws o vs (some call) = call_rule set ws o vs call

-- of a list of calls: its number, both sets and all lent words after it
pub record ReplayOutcome : Type 0 where
  pub number : ℕ
  pub a : FixedBitSet
  pub words : List ℕ
  pub b : FixedBitSet
  pub other : List ℕ

-- both sets, after a list of calls
pub record Replayed : Type 0 where
  pub number : ℕ
  pub a : FixedBitSet
  pub b : FixedBitSet

-- refused, both sets are as handed in
abbrev pub replayed_of : FixedBitSet → FixedBitSet → Result (FixedBitSet × FixedBitSet) Refusal → Replayed
replayed_of a b = answer_of (λ m. record { number = m; a = a; b = b }) (λ after. record { number = 0; a = after.0; b = after.1 })

abbrev pub replay_outcome : Replayed → List ℕ → List ℕ → ReplayOutcome
replay_outcome r ws vs = record { number = r.number; a = r.a; words = ws; b = r.b; other = vs }

-- both sets as a state leaves them
abbrev pub stored : List ℕ → List ℕ → State → ReplayOutcome
stored ws vs s = record { number = 0; a = set_of s.a; words = write ws s.a; b = set_of s.b; other = write vs s.b }

-- questions 1 to 3 of A, then of B; then the history's state, from what the words hold
abbrev pub replay_rule : FixedBitSet → List ℕ → FixedBitSet → List ℕ → List ℕ → List ℕ → ReplayOutcome
replay_rule a ws b vs calls positions =
    given (both_questions a ws b vs) (λ m. record { number = m; a = a; words = ws; b = b; other = vs })
    (stored ws vs (history (length ws) (length vs) (decode_all positions calls) (record { a = read ws a; b = read vs b })))
