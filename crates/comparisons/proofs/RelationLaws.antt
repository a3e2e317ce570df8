-- The members of two checked sets, from the bits of their words. Assumes nothing.
use mathlib.Core.Path.{◌≡◌, refl, sym, ap, ap₂, ◌∙◌}
use mathlib.Core.Bool.{Bool, true, false, not, ◌&&◌, ◌||◌, not-not}
use mathlib.Core.Logic.{◌⊎◌, inl, inr}
use Prim.Native.Nat.{ℕ, ◌*◌, ◌%◌, ◌≤◌, ◌<◌}
use native.Mathlib.Omega.{arith}
use lib.ListN.{length, get_or-eq_default}
use Rattle.word_bits.specs.Counts.{some}
use Rattle.word_bits.specs.Digits.{digit}
use Rattle.word_bits.proofs.Digits.{digit_of_zero}
use Rattle.word_bits.proofs.Order.{lt-or-le}
use Rattle.sets.specs.CheckedSets.{members}
use Rattle.sets.specs.declared.checked.Checked.{Checked}
use Rattle.sets.specs.Members.{words_of, bit_of, read}
use Rattle.sets.proofs.QuestionLaws.{valid}
use Rattle.sets.proofs.ReadLaws.{read_above, read_bit}
use Rattle.sets.proofs.WordLaws.{words_hold}
use Rattle.tests.proofs.RowLaws.{all-not-some, some_ext, some_clip}
use Rattle.comparisons.specs.Relations.{disjoint, subset}

-- a checked set's words have its members as bits, and past them there is neither
pub own_bit : (c : Checked) (p : ℕ) → bit_of c.words.now p ≡ (members c).has p
unfolding bit_of
own_bit c p = go (lt-or-le p (words_of c.length * 64))
  where
    past : words_of c.length * 64 ≤ p → bit_of c.words.now p ≡ false
    past h = ap (λ (x : ℕ). digit x (p % 64)) (get_or-eq_default c.words.now 0 (omega (arith, c.sound.own))) ∙ digit_of_zero (p % 64)

    go : (p < words_of c.length * 64) ⊎ (words_of c.length * 64 ≤ p) → bit_of c.words.now p ≡ (members c).has p
    go (inl l) = sym (read_bit (record { length = c.length }) c.words.now (valid _ _ c.sound.asked) p l)
    go (inr h) = past h ∙ sym (read_above c.words.now (record { length = c.length }) p (omega (arith, words_hold c.length)))

module _ (a b : Checked) where
  -- of two bits with f, which the first of them decides
  some_member : (f : Bool → Bool → Bool) → ((y : Bool) → f false y ≡ false)
      → some (length a.words.now * 64) (λ p. f (bit_of a.words.now p) (bit_of b.words.now p)) ≡ some a.length (λ p. f ((members a).has p) ((members b).has p))
  some_member f none =
      some_ext (length a.words.now * 64) (λ p. f (bit_of a.words.now p) (bit_of b.words.now p)) (λ p. f ((members a).has p) ((members b).has p))
      (λ p l. ap₂ f (own_bit a p) (own_bit b p))
      ∙ some_clip (λ p. f ((members a).has p) ((members b).has p)) a.length
      (λ p h. ap (λ (t : Bool). f t ((members b).has p)) (read_above a.words.now (record { length = a.length }) p h) ∙ none ((members b).has p))
      (length a.words.now * 64) (omega (arith, a.sound.own, words_hold a.length))

  pub disjoint_is : not (some (length a.words.now * 64) (λ p. bit_of a.words.now p && bit_of b.words.now p)) ≡ disjoint (members a) (members b)
  unfolding read
  disjoint_is = ap not (some_member (λ x y. x && y) (λ y. refl))

  pub subset_is : not (some (length a.words.now * 64) (λ p. bit_of a.words.now p && not (bit_of b.words.now p))) ≡ subset (members a) (members b)
  unfolding read
  subset_is =
      ap not (some_member (λ x y. x && not y) (λ y. refl))
      ∙ sym (all-not-some a.length (λ p. not ((members a).has p) || (members b).has p) (λ p. (members a).has p && not ((members b).has p))
      (λ p l. go ((members a).has p) ((members b).has p)))
    where
      go : (x y : Bool) → (not x || y) ≡ not (x && not y)
      go true y = sym (not-not y)
      go false y = refl
