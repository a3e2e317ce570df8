-- The words of the longer of two sets. Assumes nothing.
use mathlib.Core.Path.{◌≡◌, sym, ap, ◌∙◌}
use mathlib.Core.Bool.{Bool, cond}
use mathlib.Core.List.{List}
use Prim.Native.Nat.{ℕ, ◌≤◌, ◌<◌}
use borrow.Author.Tests.{lt-ltb, le-ltb}
use denote.Ref.{Bor}
use Rattle.sets.specs.Members.{words_of}
use Rattle.sets.specs.Questions.{both_questions}
use Rattle.sets.specs.Rules.{SlicePart, first_words, as_slice_rule}
use Rattle.sets.specs.declared.fixed_bit_set.FixedBitSet.{FixedBitSet}
use Rattle.sets.proofs.OutcomeLaws.{given_yes}
use Rattle.sets.proofs.QuestionLaws.{both_valid}
use Rattle.set_views.proofs.SliceLaws.{own_part}
use Rattle.comparisons.specs.Rules.{longer_rule}

module _ (a : FixedBitSet) (words : Bor (List ℕ)) (b : FixedBitSet) (other : Bor (List ℕ)) {m : ℕ}
    (e : m ≡ both_questions a words.now b other.now) (z : m ≡ 0) where
  sound : both_questions a words.now b other.now ≡ 0
  sound = sym e ∙ z

  -- one of the two parts, by which set is longer
  pick : Bool → SlicePart
  pick t = cond t (first_words words (words_of a.length)) (first_words other (words_of b.length))

  pub longer_first : b.length < a.length → as_slice_rule a words ≡ longer_rule a words b other
  unfolding pick
  longer_first h =
      given_yes (λ m. first_words words 0) (sym sound)
      (own_part a words (both_valid a words.now b other.now sound).one ∙ sym (ap pick (lt-ltb b.length a.length h)))

  pub longer_second : a.length ≤ b.length → as_slice_rule b other ≡ longer_rule a words b other
  unfolding pick
  longer_second h =
      given_yes (λ m. first_words words 0) (sym sound)
      (own_part b other (both_valid a words.now b other.now sound).two ∙ sym (ap pick (le-ltb b.length a.length h)))
