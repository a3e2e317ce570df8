-- Members read from the words of a set that passes questions 1 to 3, and the words after a change. Assumes nothing.
use mathlib.Core.Path.{◌≡◌, refl, sym, ap, ◌∙◌}
use mathlib.Core.Bool.{Bool, false, cond, ◌&&◌}
use mathlib.Core.List.{List}
use mathlib.Core.Logic.{◌⊎◌, inl, inr}
use Prim.Native.Nat.{ℕ, ◌+◌, ◌*◌, ◌^◌, ◌≤◌, ◌<◌}
use borrow.Author.Tests.{lt-ltb, le-ltb}
use lib.ListN.{length, get_or}
use Rattle.word_bits.specs.Digits.{digit}
use Rattle.word_bits.proofs.Digits.{word_is}
use Rattle.word_bits.proofs.Order.{lt-or-le}
use Rattle.sets.specs.Members.{Members, words_of, bit_of, read, write, set_of, changed}
use Rattle.sets.specs.Outcomes.{Outcome}
use Rattle.sets.specs.declared.fixed_bit_set.FixedBitSet.{FixedBitSet}
use Rattle.sets.proofs.WordLaws.{bit_at, within_words}
use Rattle.sets.proofs.WriteLaws.{Clipped, bit_write, length-write, write_is}
use Rattle.sets.proofs.QuestionLaws.{Valid}

pub read_len : (ws : List ℕ) (set : FixedBitSet) → (read ws set).len ≡ set.length
unfolding read
read_len ws set = refl

pub read_below : (ws : List ℕ) (set : FixedBitSet) (p : ℕ) → p < set.length → (read ws set).has p ≡ bit_of ws p
unfolding read
read_below ws set p h = ap (λ (t : Bool). t && bit_of ws p) (lt-ltb p set.length h)

pub read_above : (ws : List ℕ) (set : FixedBitSet) (p : ℕ) → set.length ≤ p → (read ws set).has p ≡ false
unfolding read
read_above ws set p h = ap (λ (t : Bool). t && bit_of ws p) (le-ltb p set.length h)

pub read_clipped : (ws : List ℕ) (set : FixedBitSet) → Clipped (read ws set)
unfolding read
read_clipped ws set = record { above = λ p h. read_above ws set p h }

module _ (set : FixedBitSet) (ws : List ℕ) (v : Valid set ws) where
  -- up to the end of its last word the members are the bits
  pub read_bit : (p : ℕ) → p < words_of set.length * 64 → (read ws set).has p ≡ bit_of ws p
  read_bit p h = go (lt-or-le p set.length)
    where
      go : (p < set.length) ⊎ (set.length ≤ p) → (read ws set).has p ≡ bit_of ws p
      go (inl l) = read_below ws set p l
      go (inr g) = read_above ws set p g ∙ sym (v.clean p g h)

  pub read-digit : (k j : ℕ) → k < words_of set.length → j < 64 → (read ws set).has (k * 64 + j) ≡ digit (get_or ws k 0) j
  read-digit k j h l = read_bit (k * 64 + j) (within_words set.length k j h l) ∙ bit_at ws k j l

  -- words that hold what a change leaves, digit by digit
  pub changed-write : (here : ℕ → Bool) (f : Bool → Bool) (vs : List ℕ) → length vs ≡ length ws
      → ((k : ℕ) → k < words_of set.length → get_or vs k 0 < 2 ^ 64)
      → ((k j : ℕ) → k < words_of set.length → j < 64
      → digit (get_or vs k 0) j ≡ cond (here (k * 64 + j)) (f (digit (get_or ws k 0) j)) (digit (get_or ws k 0) j))
      → ((k : ℕ) → words_of set.length ≤ k → get_or vs k 0 ≡ get_or ws k 0)
      → vs ≡ write ws (changed here f (read ws set))
  unfolding changed read
  changed-write here f vs e fit inside outside =
      write_is ws (changed here f (read ws set)) vs v.enough e
      (λ k h. word_is (changed here f (read ws set)).has k (get_or vs k 0) (fit k h)
      (λ j l. inside k j h l ∙ ap (λ (b : Bool). cond (here (k * 64 + j)) (f b) b) (sym (read-digit k j h l))))
      outside

  pub write_read : ((k : ℕ) → get_or ws k 0 < 2 ^ 64) → write ws (read ws set) ≡ ws
  unfolding read
  write_read fit =
      sym (write_is ws (read ws set) ws v.enough refl
      (λ k h. word_is (read ws set).has k (get_or ws k 0) (fit k) (λ j l. sym (read-digit k j h l))) (λ k h. refl))

-- a change within the length keeps the rest clear
pub changed_clipped : (here : ℕ → Bool) (f : Bool → Bool) (s : Members) → Clipped s → ((p : ℕ) → s.len ≤ p → here p ≡ false)
    → Clipped (changed here f s)
unfolding changed
changed_clipped here f s c h = record {
  above = λ p l. ap (λ (t : Bool). cond t (f (s.has p)) (s.has p)) (h p l) ∙ c.above p l;
}

-- what `write` leaves passes questions 1 to 3
pub write_valid : (ws : List ℕ) (s : Members) → Clipped s → s.len ≤ 65536 → words_of s.len ≤ length ws → Valid (set_of s) (write ws s)
write_valid ws s c small room = record {
  small = small;
  enough = rw (length-write ws s room) room;
  clean = λ p l h. bit_write ws s p h ∙ c.above p l;
}

-- a change keeps the set's value: what an accepted one gives
pub changed-outcome : (set : FixedBitSet) (ws : List ℕ) (here : ℕ → Bool) (f : Bool → Bool) {vs : List ℕ}
    → vs ≡ write ws (changed here f (read ws set))
    → ◌≡◌ {A = Outcome} (record { number = 0; set = set; words = vs })
    (record { number = 0; set = set_of (changed here f (read ws set)); words = write ws (changed here f (read ws set)) })
unfolding changed read
changed-outcome set ws here f e = ap (λ (w : List ℕ). record { number = 0; set = set; words = w }) e
