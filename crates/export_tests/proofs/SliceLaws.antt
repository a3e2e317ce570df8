-- How many words the longer of two sets has. Assumes nothing.
use mathlib.Core.Path.{◌≡◌, refl, sym, ap, ◌∙◌}
use mathlib.Core.Bool.{true, false, false≢true}
use mathlib.Core.List.{List}
use mathlib.Core.Logic.{◌⊎◌, inl, inr}
use Prim.Native.Nat.{ℕ, ◌≤◌, ◌<◌, max}
use native.Mathlib.Omega.{arith}
use denote.Ref.{Bor}
use lib.ListN.{length}
use lib.Seq.{length-take-le}
use Rattle.std.specs.Result.{is_ok}
use Rattle.std.proofs.Common.{Result, Ok, Err}
use Rattle.word_bits.proofs.Order.{lt-or-le}
use Rattle.sets.specs.Members.{words_of}
use Rattle.sets.specs.Questions.{both_questions}
use Rattle.sets.specs.Refusals.{number_of}
use Rattle.sets.specs.Rules.{SlicePart, first_words}
use Rattle.sets.specs.declared.refusal.Refusal.{Refusal}
use Rattle.sets.specs.declared.fixed_bit_set.FixedBitSet.{FixedBitSet}
use Rattle.sets.proofs.OutcomeLaws.{given_no}
use Rattle.sets.proofs.RefusalLaws.{number_ne0}
use Rattle.sets.proofs.QuestionLaws.{Valid, BothValid, both_valid}
use Rattle.set_views.proofs.SliceLaws.{own_part}
use Rattle.comparisons.specs.Rules.{longer_rule}
use Rattle.comparisons.proofs.SliceLaws.{longer_first, longer_second}

pub ok_number : {A : Type 0} (r : Result A Refusal) → is_ok r ≡ true → number_of r ≡ 0
ok_number (Ok x) e = refl
ok_number (Err d) e = absurd (false≢true e)

pub err_number : {A : Type 0} (r : Result A Refusal) → is_ok r ≡ false → number_of r ≡ 0 → ⊥
err_number (Ok x) e z = false≢true (sym e)
err_number (Err d) e z = number_ne0 d z

module _ (a : FixedBitSet) (words : Bor (List ℕ)) (b : FixedBitSet) (other : Bor (List ℕ)) {part : SlicePart} (e : part ≡ longer_rule a words b other) where
  pub longer_none : (both_questions a words.now b other.now ≡ 0 → ⊥) → length part.words ≡ 0
  longer_none h = ap (λ (s : SlicePart). length s.words) (e ∙ sym (given_no (λ m. first_words words 0) _ refl h))

  pub longer_count : both_questions a words.now b other.now ≡ 0 → length part.words ≡ words_of (max a.length b.length)
  longer_count z = go (lt-or-le b.length a.length)
    where
      v : BothValid a words.now b other.now
      v = both_valid a words.now b other.now z

      whole : (set : FixedBitSet) (slice : Bor (List ℕ)) → Valid set slice.now → part ≡ first_words slice (words_of set.length) → max a.length b.length ≡ set.length
          → length part.words ≡ words_of (max a.length b.length)
      whole set slice w p m =
          ap (λ (s : SlicePart). length s.words) p ∙ length-take-le (words_of set.length) slice.now w.enough ∙ ap words_of (sym m)

      go : (b.length < a.length) ⊎ (a.length ≤ b.length) → length part.words ≡ words_of (max a.length b.length)
      go (inl l) = whole a words v.one (e ∙ sym (longer_first a words b other refl z l) ∙ own_part a words v.one) (omega arith)
      go (inr g) = whole b other v.two (e ∙ sym (longer_second a words b other refl z g) ∙ own_part b other v.two) (omega arith)
