-- Equality of two sets, from that of their words. Assumes nothing.
use mathlib.Core.Path.{◌≡◌, refl, sym, ap, ap₂, ◌∙◌}
use mathlib.Core.Bool.{Bool, true, false, not, beq, ◌&&◌, not-not}
use mathlib.Core.List.{List}
use Prim.Native.Nat.{ℕ, ◌+◌, ◌*◌, ◌<◌}
use native.Mathlib.Omega.{arith}
use borrow.Author.Tests.{eq-eqb, ne_eqb}
use lib.ListN.{length, get_or}
use lib.Seq.{ext_get_or}
use Rattle.std.specs.Prelude.{nat_eq}
use Rattle.std.specs.Cmp.Lexicographic.{pointwise, same_text, other_text}
use Rattle.word_bits.specs.Counts.{all}
use Rattle.word_bits.proofs.Digits.{digits_ext}
use Rattle.word_bits.proofs.Quantifiers.{all_yes, each_of}
use Rattle.sets.specs.CheckedSets.{members}
use Rattle.sets.specs.declared.checked.Checked.{Checked}
use Rattle.sets.specs.Members.{words_of, bit_of, read}
use Rattle.sets.proofs.ReadLaws.{read_above}
use Rattle.sets.proofs.WordLaws.{bit_at, words_hold}
use Rattle.tests.proofs.RowLaws.{all-not-some, some_ext, some_clip}
use Rattle.operations.proofs.BlockJoins.{Words}
use Rattle.comparisons.specs.Orders.{equal}
use Rattle.comparisons.proofs.RelationLaws.{own_bit}

pub equal_no : (a b : Checked) → (a.length ≡ b.length → ⊥) → false ≡ equal (members a) (members b)
unfolding read
equal_no a b n =
    ap (λ (t : Bool). t && all a.length (λ p. beq ((members a).has p) ((members b).has p))) (sym (ne_eqb a.length b.length n))

beq_self : (x : Bool) → beq x x ≡ true
beq_self true = refl
beq_self false = refl

same_of : (x y : Bool) → beq x y ≡ true → x ≡ y
same_of true true e = refl
same_of true false e = sym e
same_of false true e = e
same_of false false e = refl

module _ (ws vs : List ℕ) (fw : Words ws) (fv : Words vs) (long : length ws ≡ length vs) where
  -- words with the same bits are the same
  words_same : ((p : ℕ) → p < length ws * 64 → bit_of ws p ≡ bit_of vs p) → ws ≡ vs
  words_same each =
      ext_get_or 0 ws vs long
      (λ k h. digits_ext 64 (get_or ws k 0) (get_or vs k 0) (fw.fits k) (fv.fits k)
      (λ j l. sym (bit_at ws k j l) ∙ each (k * 64 + j) (omega (arith, h, l)) ∙ bit_at vs k j l))

  pub same_bits : (t : Bool) → t ≡ pointwise nat_eq ws vs → t ≡ all (length ws * 64) (λ p. beq (bit_of ws p) (bit_of vs p))
  same_bits true q =
      sym (all_yes (length ws * 64) (λ p. beq (bit_of ws p) (bit_of vs p)) (λ p h. ap (λ (w : List ℕ). beq (bit_of ws p) (bit_of w p)) (sym (same_text ws vs q)) ∙ beq_self (bit_of ws p)))
  same_bits false q = none (all (length ws * 64) (λ p. beq (bit_of ws p) (bit_of vs p))) refl
    where
      none : (s : Bool) → all (length ws * 64) (λ p. beq (bit_of ws p) (bit_of vs p)) ≡ s → false ≡ s
      none true y = absurd (other_text ws vs q (words_same (λ p h. same_of (bit_of ws p) (bit_of vs p) (each_of (length ws * 64) (λ i. beq (bit_of ws i) (bit_of vs i)) y p h))))
      none false y = refl

module _ (a b : Checked) (e : a.length ≡ b.length) where
  all_member : all (length a.words.now * 64) (λ p. beq (bit_of a.words.now p) (bit_of b.words.now p)) ≡ all a.length (λ p. beq ((members a).has p) ((members b).has p))
  all_member =
      all-not-some (length a.words.now * 64) (λ p. beq (bit_of a.words.now p) (bit_of b.words.now p)) (λ p. not (beq (bit_of a.words.now p) (bit_of b.words.now p))) (λ p l. sym (not-not (beq (bit_of a.words.now p) (bit_of b.words.now p))))
      ∙ ap not
      (some_ext (length a.words.now * 64) (λ p. not (beq (bit_of a.words.now p) (bit_of b.words.now p))) (λ p. not (beq ((members a).has p) ((members b).has p)))
      (λ p l. ap₂ (λ (x y : Bool). not (beq x y)) (own_bit a p) (own_bit b p))
      ∙ some_clip (λ p. not (beq ((members a).has p) ((members b).has p))) a.length
      (λ p h. ap₂ (λ (x y : Bool). not (beq x y)) (read_above a.words.now (record { length = a.length }) p h) (read_above b.words.now (record { length = b.length }) p (omega (arith, e, h)))) (length a.words.now * 64) (omega (arith, a.sound.own, words_hold a.length)))
      ∙ sym (all-not-some a.length (λ p. beq ((members a).has p) ((members b).has p)) (λ p. not (beq ((members a).has p) ((members b).has p))) (λ p l. sym (not-not (beq ((members a).has p) ((members b).has p)))))

  pub equal_is : (t : Bool) → (length a.words.now ≡ length b.words.now → t ≡ all (length a.words.now * 64) (λ p. beq (bit_of a.words.now p) (bit_of b.words.now p))) → t ≡ equal (members a) (members b)
  unfolding read
  equal_is t h =
      h (a.sound.own ∙ ap words_of e ∙ sym b.sound.own) ∙ all_member
      ∙ ap (λ (s : Bool). s && all a.length (λ p. beq ((members a).has p) ((members b).has p))) (sym (eq-eqb a.length b.length e))
