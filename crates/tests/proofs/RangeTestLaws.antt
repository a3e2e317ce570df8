-- Tests of a range, by the bits of its words that differ from a word of zeros or of ones. Assumes nothing.
use mathlib.Core.Path.{◌≡◌, refl, sym, ap, ◌∙◌}
use mathlib.Core.Bool.{Bool, true, false, not, ◌&&◌, ◌||◌, not-not}
use mathlib.Core.List.{List}
use Prim.Native.Nat.{ℕ, ◌-◌, ◌*◌, ◌^◌, ◌≤◌, ◌<◌}
use native.Mathlib.Nat.{le_refl}
use native.Mathlib.Omega.{arith}
use lib.ListN.{length}
use Rattle.std.proofs.Common.{Ok}
use Rattle.word_bits.specs.Counts.{some}
use Rattle.masks.specs.Ranges.{covers}
use Rattle.sets.specs.Members.{read}
use Rattle.sets.specs.declared.fixed_bit_set.FixedBitSet.{FixedBitSet}
use Rattle.sets.specs.Questions.{questions, range_questions}
use Rattle.sets.specs.Refusals.{told_of}
use Rattle.sets.proofs.QuestionLaws.{valid}
use Rattle.sets.proofs.RangeQuestionLaws.{held_range, words_room}
use Rattle.sets.proofs.ReadLaws.{read_below}
use Rattle.tests.proofs.AnswerLaws.{told_yes}
use Rattle.tests.proofs.PartLaws.{part_above, part_inside, in_range}
use Rattle.tests.proofs.RowLaws.{some_clip, some_ext, all-not-some}
use Rattle.tests.specs.Rules.{contains_all_rule, contains_any_rule, is_full_rule, is_clear_rule}
use Rattle.tests.specs.Tests.{all_in, any_in}
use Rattle.tests.specs.Helpers.{differs}
use Rattle.tests.proofs.TestLaws.{differs_none, differs-all}

module _ (set : FixedBitSet) (ws : List ℕ) (start end : ℕ) (inside : end ≤ set.length) where
  -- the bits that differ from `skip`, as what they are of members
  unlike_is : (skip : ℕ) (f : ℕ → Bool) → ((p : ℕ) → p < end → differs ws skip p ≡ f p) → some end (in_range start end (differs ws skip)) ≡ some set.length (in_range start end f)
  unlike_is skip f same =
      some_ext end (in_range start end (differs ws skip)) (in_range start end f) (λ p h. ap (λ (b : Bool). covers start end p && b) (same p h))
      ∙ sym (some_clip (in_range start end f) end (λ p h. part_above start end f p h) set.length inside)

  pub any_is : some end (in_range start end (differs ws 0)) ≡ any_in start end (read ws set)
  unfolding read
  any_is = unlike_is 0 (read ws set).has (λ p h. differs_none ws p ∙ sym (read_below ws set p (omega arith)))

  pub all_is : not (some end (in_range start end (differs ws (2 ^ 64 - 1)))) ≡ all_in start end (read ws set)
  unfolding read
  all_is =
      ap not (unlike_is (2 ^ 64 - 1) (λ p. not ((read ws set).has p)) (λ p h. differs-all ws p ∙ ap not (sym (read_below ws set p (omega arith)))))
      ∙ sym (all-not-some set.length (λ p. not (covers start end p) || (read ws set).has p) (in_range start end (λ p. not ((read ws set).has p)))
      (λ p h. or-not (covers start end p) ((read ws set).has p)))
    where
      or-not : (a b : Bool) → (not a || b) ≡ not (a && not b)
      or-not true b = sym (not-not b)
      or-not false b = refl

-- an accepted call over a range tells of it
module _ (set : FixedBitSet) (ws : List ℕ) (start end : ℕ) (asked : 0 ≡ range_questions set ws start end) where
  inside : end ≤ set.length
  inside = (held_range set ws start end (sym asked)).range.inside

  pub any_told : {r : Bool} → r ≡ some end (in_range start end (differs ws 0)) → told_of (Ok r) ≡ contains_any_rule set ws start end
  any_told e = told_yes asked (e ∙ any_is set ws start end inside)

  pub all_told : {r : Bool} → r ≡ some end (in_range start end (differs ws (2 ^ 64 - 1))) → told_of (Ok (not r)) ≡ contains_all_rule set ws start end
  all_told e = told_yes asked (ap not e ∙ all_is set ws start end inside)

-- over the whole set every position is in the range
module _ (set : FixedBitSet) (ws : List ℕ) (asked : 0 ≡ questions set ws) where
  pub clear_told : {r : Bool} → r ≡ some set.length (in_range 0 set.length (differs ws 0)) → told_of (Ok (not r)) ≡ is_clear_rule set ws
  clear_told e =
      told_yes asked
      (ap not
      (e ∙ some_ext set.length (in_range 0 set.length (differs ws 0)) (read ws set).has
      (λ p h. part_inside 0 set.length (differs ws 0) p (omega arith) h ∙ differs_none ws p ∙ sym (read_below ws set p h))))

  pub full_told : {r : Bool} → r ≡ some set.length (in_range 0 set.length (differs ws (2 ^ 64 - 1))) → told_of (Ok (not r)) ≡ is_full_rule set ws
  full_told e = told_yes asked (ap not e ∙ all_is set ws 0 set.length (le_refl set.length))

  pub own_room : set.length ≤ length ws * 64
  own_room = words_room set ws (valid set ws (sym asked))
