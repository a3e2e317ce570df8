-- What the questions tell. Assumes nothing.
use mathlib.Core.Path.{◌≡◌, refl, sym, ap, ap₂, ◌∙◌}
use mathlib.Core.Bool.{Bool, true, false, cond, ◌&&◌, and-false}
use mathlib.Core.List.{List}
use mathlib.Core.Logic.{◌⊎◌, inl, inr}
use Prim.Native.Nat.{ℕ, ◌*◌, ◌≤◌, ◌<◌}
use native.Mathlib.Omega.{arith}
use borrow.Author.Tests.{le-leb, lt-leb, lt-ltb, le-ltb, eq-eqb, ne_eqb, eqb-true, eqb-false}
use lib.Dec.{leb, eqb}
use lib.ListN.{length}
use Rattle.word_bits.specs.Counts.{some}
use Rattle.word_bits.proofs.Order.{lt-or-le}
use Rattle.word_bits.proofs.Quantifiers.{some-yes, some_no, none_of}
use Rattle.sets.specs.Members.{words_of, bit_of}
use Rattle.sets.specs.Questions.{first, length_question, words_question, stray_question, questions, both_questions, position_question, new_length_question, room_question, new_questions}
use Rattle.sets.specs.declared.fixed_bit_set.FixedBitSet.{FixedBitSet}

-- a number that is not 0 is the first; after a 0 the next one counts
pub first_no : (b : ℕ) {m a : ℕ} → m ≡ a → (m ≡ 0 → ⊥) → m ≡ first a b
first_no b {m} {a} e h = e ∙ sym (ap (λ (t : Bool). cond t b a) (ne_eqb a 0 (λ z. h (e ∙ z))))

pub first-yes : {a b m : ℕ} → a ≡ 0 → m ≡ b → m ≡ first a b
first-yes {a} {b} e f = f ∙ sym (ap (λ (t : Bool). cond t b a) (eq-eqb a 0 e))

pub first-both : (a b : ℕ) → first a b ≡ 0 → (a ≡ 0) × (b ≡ 0)
first-both a b e = go (eqb a 0) refl e
  where
    go : (t : Bool) → eqb a 0 ≡ t → cond t b a ≡ 0 → (a ≡ 0) × (b ≡ 0)
    go true q z = (eqb-true a 0 q, z)
    go false q z = absurd (eqb-false a 0 q z)

-- a question is 0 where its test holds, and its number where it fails
yes_of : {t : Bool} (n : ℕ) → t ≡ true → cond t 0 n ≡ 0
yes_of n e = ap (λ (b : Bool). cond b 0 n) e

no_of : {t : Bool} (n : ℕ) → t ≡ false → cond t 0 n ≡ n
no_of n e = ap (λ (b : Bool). cond b 0 n) e

-- ---- questions 1 to 3

-- a set that passes them
pub record Valid (set : FixedBitSet) (ws : List ℕ) : Type 0 where
  pub small : set.length ≤ 65536
  pub enough : words_of set.length ≤ length ws
  pub clean : (p : ℕ) → set.length ≤ p → p < words_of set.length * 64 → bit_of ws p ≡ false

module _ (set : FixedBitSet) (ws : List ℕ) where
  pub question_1 : 65536 < set.length → questions set ws ≡ 1
  unfolding questions length_question
  question_1 h = rw (no_of 1 (lt-leb set.length 65536 h))

  pub question_2 : set.length ≤ 65536 → length ws < words_of set.length → questions set ws ≡ 2
  unfolding questions length_question words_question
  question_2 a h = rw (yes_of 1 (le-leb set.length 65536 a), no_of 2 (lt-leb (words_of set.length) (length ws) h))

  stray : Bool
  stray = some (words_of set.length * 64) (λ p. leb set.length p && bit_of ws p)

  question_by : set.length ≤ 65536 → words_of set.length ≤ length ws → questions set ws ≡ cond stray 3 0
  unfolding questions length_question words_question stray_question stray
  question_by a b = rw (yes_of 1 (le-leb set.length 65536 a), yes_of 2 (le-leb (words_of set.length) (length ws) b))

  pub question_3 : set.length ≤ 65536 → words_of set.length ≤ length ws
      → (p : ℕ) → set.length ≤ p → p < words_of set.length * 64 → bit_of ws p ≡ true → questions set ws ≡ 3
  unfolding stray
  question_3 a b p l h y =
      question_by a b
      ∙ ap (λ (t : Bool). cond t 3 0)
      (some-yes (words_of set.length * 64) (λ q. leb set.length q && bit_of ws q) p h (ap₂ ◌&&◌ (le-leb set.length p l) y))

  pub valid_yes : Valid set ws → questions set ws ≡ 0
  unfolding stray
  valid_yes v =
      question_by v.small v.enough
      ∙ ap (λ (t : Bool). cond t 3 0)
      (some_no (words_of set.length * 64) (λ q. leb set.length q && bit_of ws q) (λ p h. go p h (lt-or-le p set.length)))
    where
      go : (p : ℕ) → p < words_of set.length * 64 → (p < set.length) ⊎ (set.length ≤ p) → (leb set.length p && bit_of ws p) ≡ false
      go p h (inl l) = ap (λ (t : Bool). t && bit_of ws p) (lt-leb set.length p l)
      go p h (inr g) = ap (λ (t : Bool). leb set.length p && t) (v.clean p g h) ∙ and-false (leb set.length p)

  pub valid : questions set ws ≡ 0 → Valid set ws
  unfolding stray
  valid e = go (lt-or-le 65536 set.length) (lt-or-le (length ws) (words_of set.length))
    where
      clear : ◌≡◌ {A = ℕ} (cond stray 3 0) 0 → (p : ℕ) → set.length ≤ p → p < words_of set.length * 64 → bit_of ws p ≡ false
      clear z p l h =
          ap (λ (t : Bool). t && bit_of ws p) (sym (le-leb set.length p l))
          ∙ none_of (words_of set.length * 64) (λ q. leb set.length q && bit_of ws q) (off stray refl z) p h
        where
          off : (t : Bool) → stray ≡ t → ◌≡◌ {A = ℕ} (cond t 3 0) 0 → stray ≡ false
          off true y z = absurd (omega arith)
          off false y z = y

      go : (65536 < set.length) ⊎ (set.length ≤ 65536) → (length ws < words_of set.length) ⊎ (words_of set.length ≤ length ws) → Valid set ws
      go (inl a) w = absurd (omega (arith, question_1 a))
      go (inr a) (inl b) = absurd (omega (arith, question_2 a b))
      go (inr a) (inr b) = record { small = a; enough = b; clean = clear (sym (question_by a b) ∙ e) }

-- both sets pass questions 1 to 3
pub record BothValid (a : FixedBitSet) (ws : List ℕ) (b : FixedBitSet) (vs : List ℕ) : Type 0 where
  pub one : Valid a ws
  pub two : Valid b vs

pub both_valid : (a : FixedBitSet) (ws : List ℕ) (b : FixedBitSet) (vs : List ℕ) → both_questions a ws b vs ≡ 0 → BothValid a ws b vs
unfolding both_questions
both_valid a ws b vs e =
    let q = first-both (questions a ws) (questions b vs) e in
    record { one = valid a ws q.0; two = valid b vs q.1 }

-- ---- question 4

pub position_yes : (set : FixedBitSet) (p : ℕ) → p < set.length → position_question set p ≡ 0
unfolding position_question
position_yes set p h = yes_of 4 (lt-ltb p set.length h)

pub position_no : (set : FixedBitSet) (p : ℕ) → set.length ≤ p → position_question set p ≡ 4
unfolding position_question
position_no set p h = no_of 4 (le-ltb p set.length h)

pub position_below : (set : FixedBitSet) (p : ℕ) → position_question set p ≡ 0 → p < set.length
position_below set p e = go (lt-or-le p set.length)
  where
    go : (p < set.length) ⊎ (set.length ≤ p) → p < set.length
    go (inl l) = l
    go (inr g) = absurd (omega (arith, position_no set p g))

-- ---- questions 6 and 7

-- a new length that passes them
pub record Room (n size : ℕ) : Type 0 where
  pub small : n ≤ 65536
  pub enough : words_of n ≤ size

module _ (n size : ℕ) where
  pub question_6 : 65536 < n → new_questions n size ≡ 6
  unfolding new_length_question
  question_6 h = rw (no_of 6 (lt-leb n 65536 h))

  pub question_7 : n ≤ 65536 → size < words_of n → new_questions n size ≡ 7
  unfolding new_length_question room_question
  question_7 a h = rw (yes_of 6 (le-leb n 65536 a), no_of 7 (lt-leb (words_of n) size h))

  pub room_yes : Room n size → new_questions n size ≡ 0
  unfolding new_length_question room_question
  room_yes r = rw (yes_of 6 (le-leb n 65536 r.small), yes_of 7 (le-leb (words_of n) size r.enough))

  pub room : new_questions n size ≡ 0 → Room n size
  room e = go (lt-or-le 65536 n) (lt-or-le size (words_of n))
    where
      go : (65536 < n) ⊎ (n ≤ 65536) → (size < words_of n) ⊎ (words_of n ≤ size) → Room n size
      go (inl a) w = absurd (omega (arith, question_6 a))
      go (inr a) (inl b) = absurd (omega (arith, question_7 a b))
      go (inr a) (inr b) = record { small = a; enough = b }

  -- a length that question 1 has passed is asked 7 alone
  pub room_only : n ≤ 65536 → new_questions n size ≡ room_question n size
  unfolding new_length_question
  room_only h = rw (yes_of 6 (le-leb n 65536 h))
