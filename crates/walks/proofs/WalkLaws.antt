-- The members of the sets of a walk as bits of their own words, and its questions in order. Assumes nothing.
use mathlib.Core.Path.{◌≡◌, ap, ap₂, sym, fun_ext, ◌∙◌}
use mathlib.Core.Bool.{Bool}
use mathlib.Core.List.{List}
use mathlib.Core.Logic.{◌⊎◌, inl, inr}
use Prim.Native.Nat.{ℕ, ◌/◌, ◌%◌, ◌≤◌, ◌<◌}
use native.Mathlib.Omega.{arith}
use lib.ListN.{get_or-eq_default}
use Rattle.word_bits.specs.Digits.{digit}
use Rattle.word_bits.proofs.Digits.{digit_of_zero}
use Rattle.word_bits.proofs.Order.{lt-or-le}
use Rattle.sets.specs.Checks.{Sound}
use Rattle.sets.specs.Members.{words_of, bit_of, read}
use Rattle.sets.specs.CheckedSets.{members}
use Rattle.sets.specs.Questions.{first}
use Rattle.sets.specs.Refusals.{number}
use Rattle.sets.specs.declared.checked.Checked.{Checked}
use Rattle.sets.specs.declared.refusal.Refusal.{Refusal}
use Rattle.sets.proofs.QuestionLaws.{first_no, valid}
use Rattle.sets.proofs.RefusalLaws.{number_ne0}
use Rattle.sets.proofs.ReadLaws.{read_bit, read_above}
use Rattle.sets.proofs.WordLaws.{words_hold}
use Rattle.parts.specs.Selections.{Selection, selected}
use Rattle.parts.specs.declared.records.End.{End}
use Rattle.sets.specs.declared.answers.Part.{Part}
use Rattle.walks.specs.Helpers.{chosen, row_of, row_step}
use Rattle.walks.specs.declared.rows.RowStep.{RowStep}

-- a bit past a set's own words is no
pub own_bits : (n : ℕ) (ws : List ℕ) → Sound n ws → (p : ℕ) → bit_of ws p ≡ (read ws (record { length = n })).has p
unfolding bit_of
own_bits n ws s p = go (lt-or-le (p / 64) (words_of n))
  where
    go : (p / 64 < words_of n) ⊎ (words_of n ≤ p / 64) → bit_of ws p ≡ (read ws (record { length = n })).has p
    go (inl l) = sym (read_bit (record { length = n }) ws (valid (record { length = n }) ws s.asked) p (omega arith))
    go (inr g) =
        ap (λ (x : ℕ). digit x (p % 64)) (get_or-eq_default ws 0 (rw s.own g))
        ∙ digit_of_zero (p % 64) ∙ sym (read_above ws (record { length = n }) p (omega (arith, (words_hold n).0)))

-- a part over the bits of both sets' own words is one over their members
pub own_chosen : (s : Selection) (a b : Checked) → (λ p. selected s (bit_of a.words.now p) (bit_of b.words.now p)) ≡ chosen s (members a) (members b)
own_chosen s a b = fun_ext (λ p. ap₂ (selected s) (own_bits a.length a.words.now a.sound p) (own_bits b.length b.words.now b.sound p))

-- a step of the words of checked sets is one of their members
pub own_rows : (s l : Selection) (a b : Checked) (end : End) (one two : Part) {r : RowStep} → r ≡ row_step end (row_of s a.words.now b.words.now) (row_of l b.words.now a.words.now) one two
    → r ≡ row_step end (chosen s (members a) (members b)) (chosen l (members b) (members a)) one two
own_rows s l a b end one two h = h ∙ ap₂ (λ (f g : ℕ → Bool). row_step end f g one two) (own_chosen s a b) (own_chosen l b a)

-- a question that says no gives the number, whatever is asked after it
pub first_number : (b : ℕ) {a : ℕ} (e : Refusal) → number e ≡ a → number e ≡ first a b
first_number b e h = first_no b h (number_ne0 e)
