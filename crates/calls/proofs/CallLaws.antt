-- The rule of a call by what it leaves. Assumes nothing.
use mathlib.Core.Path.{◌≡◌, refl, sym, ap}
use mathlib.Core.List.{List}
use Prim.Native.Nat.{ℕ, zero, suc, ◌<◌, ◌^◌}
use lib.ListN.{length, get_or}
use Rattle.sets.specs.Members.{Members, read, write, set_of}
use Rattle.sets.specs.Outcomes.{Outcome, given, edited}
use Rattle.sets.specs.Questions.{first, questions, both_questions}
use Rattle.sets.specs.declared.fixed_bit_set.FixedBitSet.{FixedBitSet}
use Rattle.sets.proofs.QuestionLaws.{first-yes, Valid, valid_yes}
use Rattle.sets.proofs.ReadLaws.{write_read}
use Rattle.calls.specs.Calls.{Call, Insert, Remove, Put, Toggle, Set, CopyBit, InsertRange, RemoveRange, ToggleRange, SetRange, Clear, Grow, GrowAndInsert, UnionWith, IntersectWith, DifferenceWith, SymmetricDifferenceWith, InsertAll, refusal, done, leaves}
use Rattle.calls.specs.Rules.{call_rule}

module _ (set : FixedBitSet) (ws : List ℕ) (o : FixedBitSet) (vs : List ℕ) (one : questions set ws ≡ 0) (two : questions o vs ≡ 0) where
  -- a call that is refused gives its number, one that is accepted what it leaves
  abbrev by : Call → Outcome
  by call = edited (refusal call (length ws) (read ws set) (read vs o)) set ws (done call (read ws set) (read vs o))

  past : {q : ℕ} → q ≡ 0 → (n : ℕ) (s : Members) → edited (first q n) set ws s ≡ edited n set ws s
  past e n s = ap (λ (m : ℕ). edited m set ws s) (sym (first-yes e refl))

  both : both_questions set ws o vs ≡ 0
  unfolding both_questions
  both = sym (first-yes one (sym two))

  rule_by : (call : Call) → call_rule set ws o vs call ≡ by call
  unfolding read
  rule_by (Insert bit) = past one _ _
  rule_by (Remove bit) = past one _ _
  rule_by (Put bit) = past one _ _
  rule_by (Toggle bit) = past one _ _
  rule_by (Set bit enabled) = past one _ _
  rule_by (CopyBit from to) = past one _ _
  rule_by (InsertRange start end) = past one _ _
  rule_by (RemoveRange start end) = past one _ _
  rule_by (ToggleRange start end) = past one _ _
  rule_by (SetRange start end enabled) = past one _ _
  rule_by Clear = ap (λ (m : ℕ). edited m set ws (done Clear (read ws set) (read vs o))) one
  rule_by (Grow n) = past one _ _
  rule_by (GrowAndInsert bit) = past one _ _
  rule_by UnionWith = past both _ _
  rule_by IntersectWith = ap (λ (m : ℕ). edited m set ws (done IntersectWith (read ws set) (read vs o))) both
  rule_by DifferenceWith = ap (λ (m : ℕ). edited m set ws (done DifferenceWith (read ws set) (read vs o))) both
  rule_by SymmetricDifferenceWith = past both _ _
  rule_by (InsertAll ps) = past one _ _

-- the set and the words of an edit, refused or accepted
pub record Holds (x : Outcome) (ws : List ℕ) (s : Members) : Type 0 where
  pub set : x.set ≡ set_of s
  pub words : x.words ≡ write ws s

edited_holds : (n : ℕ) (set : FixedBitSet) (ws : List ℕ) (s : Members) → write ws (read ws set) ≡ ws → Holds (edited n set ws s) ws (given n (λ m. read ws set) s)
unfolding given read
edited_holds zero set ws s e = record { set = refl; words = refl }
edited_holds (suc n) set ws s e = record { set = refl; words = sym e }

pub call_holds : (call : Call) (set : FixedBitSet) (ws : List ℕ) (o : FixedBitSet) (vs : List ℕ) → Valid set ws → Valid o vs → ((k : ℕ) → get_or ws k 0 < 2 ^ 64)
    → Holds (call_rule set ws o vs call) ws (leaves call (length ws) (read ws set) (read vs o))
unfolding leaves
call_holds call set ws o vs v w fit =
    rw (rule_by set ws o vs (valid_yes set ws v) (valid_yes o vs w) call)
    (edited_holds (refusal call (length ws) (read ws set) (read vs o)) set ws (done call (read ws set) (read vs o)) (write_read set ws v fit))
