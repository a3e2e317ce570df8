-- One mark: the code's test and store, and what a mark does to the words of a set. Assumes nothing.
use mathlib.Core.Path.{◌≡◌, refl, sym, ap, ap₂, ◌∙◌}
use mathlib.Core.Bool.{Bool, true, false, not, cond, ◌||◌}
use mathlib.Core.List.{List}
use Prim.Native.Nat.{ℕ, ◌+◌, ◌*◌, ◌/◌, ◌%◌, ◌^◌, ◌≤◌, ◌<◌}
use native.Mathlib.Omega.{arith}
use borrow.Author.Tests.{eq-eqb, ne_eqb, eqb-true, eqb-false}
use lib.Bits.{bit_and, bit_or, or_lt}
use lib.Dec.{eqb}
use lib.ListN.{length, get_or, set as set_at, length-set, get_or-eq_default}
use lib.Pow.{pow-lt}
use lib.Seq.{get_or-set_same, get_or-set_other, set_out}
use Rattle.word_bits.specs.Digits.{digit, word_of}
use Rattle.word_bits.proofs.Digits.{digit_of_zero, digit_word, word_is, word_lt}
use Rattle.word_bits.proofs.Operations.{digit_or, digit_power}
use Rattle.word_bits.proofs.SingleBit.{single_bit, test_bit}
use Rattle.sets.specs.Members.{Members, words_of, bit_of, write, changed}
use Rattle.sets.proofs.ReadLaws.{read_below, read_above}
use Rattle.sets.proofs.WordLaws.{word_of_lem}
use Rattle.sets.proofs.WriteLaws.{length-write, write_in, write_out, write_is}
use Rattle.edits.specs.Edits.{inserted}
use Rattle.renumber_steps.specs.Passes.{marked}

-- ---- the code

pub bit_is : (ws : List ℕ) (x : ℕ) → not (eqb (bit_and (get_or ws (x / 64) 0) ((1 * 2 ^ (x % 64)) % 2 ^ 64)) 0) ≡ bit_of ws x
unfolding bit_of
bit_is ws x =
    ap (λ (m : ℕ). not (eqb (bit_and (get_or ws (x / 64) 0) m) 0)) (single_bit (x % 64) (omega arith)) ∙ test_bit (get_or ws (x / 64) 0) (x % 64) (omega arith)

pub mark_is : (ws : List ℕ) (x : ℕ) → set_at ws (x / 64) (bit_or (get_or ws (x / 64) 0) ((1 * 2 ^ (x % 64)) % 2 ^ 64)) ≡ marked ws x
unfolding marked
mark_is ws x = ap (λ (m : ℕ). set_at ws (x / 64) (bit_or (get_or ws (x / 64) 0) m)) (single_bit (x % 64) (omega arith))

-- an offset beyond the words is not marked
pub bit_beyond : (ws : List ℕ) (x : ℕ) → length ws ≤ x / 64 → bit_of ws x ≡ false
unfolding bit_of
bit_beyond ws x h = ap (λ (w : ℕ). digit w (x % 64)) (get_or-eq_default ws 0 h) ∙ digit_of_zero (x % 64)

pub mark_beyond : (ws : List ℕ) (x : ℕ) → length ws ≤ x / 64 → marked ws x ≡ ws
unfolding marked
mark_beyond ws x h = set_out ws (x / 64) _ h

pub ruleset mark_cases = (bit_is, mark_is, bit_beyond, mark_beyond)

-- ---- the words of a set

pub ruleset member_cases = (bit_is, read_below, read_above, word_of_lem)

-- two equality tests agree where their equations do
pub eqb_agree : (a b c d : ℕ) → (a ≡ b → c ≡ d) → (c ≡ d → a ≡ b) → eqb a b ≡ eqb c d
eqb_agree a b c d f g = go (eqb a b) refl
  where
    go : (t : Bool) → eqb a b ≡ t → t ≡ eqb c d
    go true e = sym (eq-eqb c d (f (eqb-true a b e)))
    go false e = sym (ne_eqb c d (λ q. eqb-false a b e (g q)))

module _ (vs : List ℕ) (t : Members) (room : words_of t.len ≤ length vs) (x : ℕ) (h : x < t.len) where
  abbrev new : ℕ
  new = bit_or (get_or (write vs t) (x / 64) 0) (2 ^ (x % 64))

  within : x / 64 < words_of t.len
  within = let w = word_of_lem t.len x h in omega arith

  joined : (a b : Bool) → (a || b) ≡ cond b true a
  joined true true = refl
  joined true false = refl
  joined false true = refl
  joined false false = refl

  inside : (i : ℕ) → i < words_of t.len → (b : Bool) → eqb i (x / 64) ≡ b → get_or (marked (write vs t) x) i 0 ≡ word_of (inserted x t).has i
  unfolding marked changed
  inside i l true e =
      let q = eqb-true i (x / 64) e in
      ap (λ (k : ℕ). get_or (set_at (write vs t) (x / 64) new) k 0) q
      ∙ get_or-set_same (write vs t) (x / 64) new 0 (rw (length-write vs t room) (omega (arith, within)))
      ∙ word_is (inserted x t).has i new
      (or_lt 64 (get_or (write vs t) (x / 64) 0) (2 ^ (x % 64)) (rw (write_in vs t (x / 64) within) (word_lt t.has (x / 64))) (pow-lt {j = 64} (omega arith)))
      (λ j m. digit_or (get_or (write vs t) (x / 64) 0) (2 ^ (x % 64)) j
      ∙ ap₂ ◌||◌
      (ap (λ (w : ℕ). digit w j) (write_in vs t (x / 64) within) ∙ digit_word t.has (x / 64) j m ∙ ap (λ (k : ℕ). t.has (k * 64 + j)) (sym q))
      (digit_power (x % 64) j ∙ eqb_agree j (x % 64) x (i * 64 + j) (λ z. omega arith) (λ z. omega arith))
      ∙ joined (t.has (i * 64 + j)) (eqb x (i * 64 + j)))
  inside i l false e =
      let q = eqb-false i (x / 64) e in
      get_or-set_other (write vs t) (x / 64) i new 0 q ∙ write_in vs t i l
      ∙ word_is (inserted x t).has i (word_of t.has i) (word_lt t.has i)
      (λ j m. digit_word t.has i j m
      ∙ sym (ap (λ (b : Bool). cond b true (t.has (i * 64 + j))) (ne_eqb x (i * 64 + j) (λ z. q (omega arith)))))

  -- the mark of an offset below the length makes it a member
  pub mark_write : marked (write vs t) x ≡ write vs (inserted x t)
  unfolding marked changed
  mark_write =
      write_is vs (inserted x t) (marked (write vs t) x) room (length-set (write vs t) (x / 64) new ∙ length-write vs t room)
      (λ i l. inside i l (eqb i (x / 64)) refl)
      (λ i l. get_or-set_other (write vs t) (x / 64) i new 0 (λ z. omega (arith, within)) ∙ write_out vs t i l)
