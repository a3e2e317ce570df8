-- One position: what its questions tell, its bit, and the words after its change. Assumes nothing.
use mathlib.Core.Path.{◌≡◌, refl, sym, ap, ap₂, ◌∙◌}
use mathlib.Core.Bool.{Bool, true, false, not, cond}
use mathlib.Core.List.{List}
use Prim.Native.Nat.{ℕ, ◌+◌, ◌*◌, ◌/◌, ◌%◌, ◌^◌, ◌≤◌, ◌<◌}
use native.Mathlib.Omega.{arith}
use borrow.Author.Tests.{eq-eqb, ne_eqb, eqb-true, eqb-false}
use lib.Bits.{bit_and}
use lib.Dec.{eqb}
use lib.ListN.{length, get_or, set as set_at, length-set}
use lib.Seq.{get_or-set_same, get_or-set_other}
use Rattle.word_bits.specs.Digits.{digit}
use Rattle.word_bits.proofs.Operations.{digit_power}
use Rattle.word_bits.proofs.SingleBit.{single_bit, test_bit}
use Rattle.sets.specs.Members.{words_of, bit_of, read, write, changed}
use Rattle.std.specs.Result.{IsErrAnd}
use Rattle.std.proofs.Common.{Result}
use Rattle.std.proofs.lemmas.Result.{err_from_is_err_and}
use Rattle.sets.specs.Outcomes.{Outcome, given}
use Rattle.sets.specs.Refusals.{number}
use Rattle.sets.specs.declared.refusal.Refusal.{Refusal}
use Rattle.sets.proofs.RefusalLaws.{number_ne0}
use Rattle.sets.specs.Questions.{questions, position_question, position_questions}
use Rattle.sets.specs.declared.fixed_bit_set.FixedBitSet.{FixedBitSet}
use Rattle.sets.proofs.OutcomeLaws.{given_no, given_yes}
use Rattle.sets.proofs.QuestionLaws.{Valid, first-both, valid, position_below}
use Rattle.sets.proofs.ReadLaws.{read_below, changed-write, changed-outcome}
use Rattle.sets.proofs.WordLaws.{word_of_lem}
use Rattle.changes.specs.Changes.{effect, changed_word}
use Rattle.edits.specs.Rules.{at_position, put_outcome, replaced_of}
use Rattle.changes.specs.declared.change.Change.{Change}
use Rattle.changes.proofs.WordChanges.{changed-digit, changed-lt}

-- two equality tests agree where their equations do
eqb_agree : (a b c d : ℕ) → (a ≡ b → c ≡ d) → (c ≡ d → a ≡ b) → eqb a b ≡ eqb c d
eqb_agree a b c d f g = go (eqb a b) refl
  where
    go : (t : Bool) → eqb a b ≡ t → t ≡ eqb c d
    go true e = sym (eq-eqb c d (f (eqb-true a b e)))
    go false e = sym (ne_eqb c d (λ q. eqb-false a b e (g q)))

-- the slice has the word of a position below the length
pub word_room : {set : FixedBitSet} {ws : List ℕ} → Valid set ws → (bit : ℕ) → bit < set.length → bit / 64 < length ws
word_room {set} v bit h = let w = word_of_lem set.length bit h in omega (arith, v.enough)

module _ (set : FixedBitSet) (ws : List ℕ) (v : Valid set ws) (fit : (k : ℕ) → get_or ws k 0 < 2 ^ 64) (bit : ℕ) (h : bit < set.length)
    (change : Change) where
  pub position_write : set_at ws (bit / 64) (changed_word change (2 ^ (bit % 64)) (get_or ws (bit / 64) 0))
      ≡ write ws (changed (eqb bit) (effect change) (read ws set))
  position_write =
      changed-write set ws v (eqb bit) (effect change) vs (length-set ws (bit / 64) _) (λ k l. bound k (eqb k (bit / 64)) refl)
      (λ k j l m. inside k j m (eqb k (bit / 64)) refl) (λ k l. get_or-set_other ws (bit / 64) k _ 0 (λ e. below_ne k l e))
    where
      new : ℕ
      new = changed_word change (2 ^ (bit % 64)) (get_or ws (bit / 64) 0)

      vs : List ℕ
      vs = set_at ws (bit / 64) new

      room : bit / 64 < length ws
      room = word_room v bit h

      below_ne : (k : ℕ) → words_of set.length ≤ k → k ≡ bit / 64 → ⊥
      below_ne k l e = let w = word_of_lem set.length bit h in omega arith

      same : (k : ℕ) → k ≡ bit / 64 → get_or vs k 0 ≡ new
      same k e = ap (λ (i : ℕ). get_or vs i 0) e ∙ get_or-set_same ws (bit / 64) new 0 room

      other : (k : ℕ) → (k ≡ bit / 64 → ⊥) → get_or vs k 0 ≡ get_or ws k 0
      other k e = get_or-set_other ws (bit / 64) k new 0 e

      bound : (k : ℕ) (t : Bool) → eqb k (bit / 64) ≡ t → get_or vs k 0 < 2 ^ 64
      bound k true e = rw (same k (eqb-true k (bit / 64) e)) (changed-lt change (2 ^ (bit % 64)) (get_or ws (bit / 64) 0))
      bound k false e = rw (other k (eqb-false k (bit / 64) e)) (fit k)

      inside : (k j : ℕ) → j < 64 → (t : Bool) → eqb k (bit / 64) ≡ t
          → digit (get_or vs k 0) j ≡ cond (eqb bit (k * 64 + j)) (effect change (digit (get_or ws k 0) j)) (digit (get_or ws k 0) j)
      inside k j m true e =
          let q = eqb-true k (bit / 64) e in
          ap (λ (x : ℕ). digit x j) (same k q) ∙ changed-digit change (2 ^ (bit % 64)) (get_or ws (bit / 64) 0) j m
          ∙ ap₂ (λ (b : Bool) (x : ℕ). cond b (effect change (digit x j)) (digit x j))
          (digit_power (bit % 64) j ∙ eqb_agree j (bit % 64) bit (k * 64 + j) (λ z. omega arith) (λ z. omega arith))
          (ap (λ (i : ℕ). get_or ws i 0) (sym q))
      inside k j m false e =
          let q = eqb-false k (bit / 64) e in
          ap (λ (x : ℕ). digit x j) (other k q)
          ∙ sym (ap (λ (b : Bool). cond b (effect change (digit (get_or ws k 0) j)) (digit (get_or ws k 0) j)) (ne_eqb bit (k * 64 + j) (λ z. q (omega arith))))

-- a position that questions 1 to 4 accept
module _ (set : FixedBitSet) (ws : List ℕ) (bit : ℕ) (accepted : 0 ≡ position_questions set ws bit) where
  position_asked : (questions set ws ≡ 0) × (position_question set bit ≡ 0)
  position_asked = first-both (questions set ws) (position_question set bit) (sym accepted)

  position_valid : Valid set ws
  position_valid = valid set ws position_asked.0

  position_in : bit < set.length
  position_in = position_below set bit position_asked.1

  pub position_room : bit / 64 < length ws
  position_room = word_room position_valid bit position_in

  -- the test of its bit is membership
  pub position_was : not (eqb (bit_and (get_or ws (bit / 64) 0) ((1 * 2 ^ (bit % 64)) % 2 ^ 64)) 0) ≡ (read ws set).has bit
  unfolding bit_of
  position_was =
      ap (λ (m : ℕ). not (eqb (bit_and (get_or ws (bit / 64) 0) m) 0)) (single_bit (bit % 64) (omega arith))
      ∙ test_bit (get_or ws (bit / 64) 0) (bit % 64) (omega arith) ∙ sym (read_below ws set bit position_in)

  -- the change of its bit is the edit
  pub position_outcome : ((k : ℕ) → get_or ws k 0 < 2 ^ 64) → (change : Change) {x : ℕ}
      → x ≡ changed_word change ((1 * 2 ^ (bit % 64)) % 2 ^ 64) (get_or ws (bit / 64) 0)
      → ◌≡◌ {A = Outcome} (record { number = 0; set = set; words = set_at ws (bit / 64) x })
      (at_position set ws bit (changed (eqb bit) (effect change) (read ws set)))
  position_outcome fit change e =
      given_yes _ accepted
      (changed-outcome set ws (eqb bit) (effect change)
      (ap (λ (x : ℕ). set_at ws (bit / 64) x)
      (e ∙ ap (λ (m : ℕ). changed_word change m (get_or ws (bit / 64) 0)) (single_bit (bit % 64) (omega arith)))
      ∙ position_write set ws position_valid fit bit position_in change))

-- a `put` that a refusal ends
pub put_refused : (set : FixedBitSet) (ws : List ℕ) (given_edit : Outcome) (given_was : Bool) {n : ℕ} (r : Result (FixedBitSet × Bool) Refusal) (e : Refusal)
    → IsErrAnd r (λ d. d ≡ e) → number e ≡ n
    → put_outcome (replaced_of set r) ws
    ≡ record { edit = given n (λ m. record { number = m; set = set; words = ws }) given_edit; was = given n (λ m. false) given_was }
put_refused set ws given_edit given_was r e passed numbered =
    let p = err_from_is_err_and r passed in
    ap (λ (x : Result (FixedBitSet × Bool) Refusal). put_outcome (replaced_of set x) ws) p.1
    ∙ ap₂ (λ (o : Outcome) (w : Bool). record { edit = o; was = w })
    (given_no (λ m. record { number = m; set = set; words = ws }) given_edit (ap number p.2 ∙ numbered) (number_ne0 p.0))
    (given_no (λ m. false) given_was (ap number p.2 ∙ numbered) (number_ne0 p.0))
