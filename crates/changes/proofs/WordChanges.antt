-- The word that a change leaves, by its digits. Assumes nothing.
use mathlib.Core.Path.{◌≡◌, refl, sym, ap, ap₂, ◌∙◌}
use mathlib.Core.Bool.{Bool, true, false, not, cond, ◌&&◌, ◌||◌, xor}
use Prim.Native.Nat.{ℕ, ◌-◌, ◌^◌, ◌<◌}
use lib.Bits.{bit_and, bit_or, bit_xor, and_lt, or_lt, xor_lt}
use lib.Dec.{lit<}
use lib.Pow.{ones_sub-lt}
use Rattle.word_bits.specs.Digits.{digit}
use Rattle.word_bits.proofs.Digits.{digit-number, number_is, number_lt, digit_of_zero}
use Rattle.word_bits.proofs.Operations.{digit_and, digit_or, digit-xor, digit_not}
use Rattle.changes.specs.Changes.{effect, changed_word}
use Rattle.changes.specs.declared.change.Change.{Change}
use Rattle.changes.specs.declared.change.Change.TheVariants.{Insert, Remove, Toggle}

module _ (change : Change) (mask word : ℕ) where
  pub changed-lt : changed_word change mask word < 2 ^ 64
  unfolding changed_word
  changed-lt = number_lt 64 (λ j. cond (digit mask j) (effect change (digit word j)) (digit word j))

  pub changed-digit : (j : ℕ) → j < 64 → digit (changed_word change mask word) j ≡ cond (digit mask j) (effect change (digit word j)) (digit word j)
  unfolding changed_word
  changed-digit j h = digit-number 64 (λ i. cond (digit mask i) (effect change (digit word i)) (digit word i)) j h

  pub changed_is : (x : ℕ) → x < 2 ^ 64 → ((j : ℕ) → j < 64 → digit x j ≡ cond (digit mask j) (effect change (digit word j)) (digit word j))
      → x ≡ changed_word change mask word
  unfolding changed_word
  changed_is x h same = number_is 64 x (λ j. cond (digit mask j) (effect change (digit word j)) (digit word j)) h same

-- ---- with a mask

module _ (mask word : ℕ) (hm : mask < 2 ^ 64) (hw : word < 2 ^ 64) where
  pub insert_word : bit_or word mask ≡ changed_word Insert mask word
  insert_word = changed_is Insert mask word (bit_or word mask) (or_lt 64 word mask hw hm) (λ j l. digit_or word mask j ∙ go (digit word j) (digit mask j))
    where
      go : (a b : Bool) → (a || b) ≡ cond b true a
      go true true = refl
      go true false = refl
      go false true = refl
      go false false = refl

  pub remove_word : bit_and word ((2 ^ 64 - 1) - mask) ≡ changed_word Remove mask word
  remove_word =
      changed_is Remove mask word (bit_and word ((2 ^ 64 - 1) - mask)) (and_lt 64 word ((2 ^ 64 - 1) - mask) hw (ones_sub-lt 64 mask))
      (λ j l. digit_and word ((2 ^ 64 - 1) - mask) j ∙ ap (λ (b : Bool). digit word j && b) (digit_not 64 mask j hm l) ∙ go (digit word j) (digit mask j))
    where
      go : (a b : Bool) → (a && not b) ≡ cond b false a
      go true true = refl
      go true false = refl
      go false true = refl
      go false false = refl

  pub toggle_word : bit_xor word mask ≡ changed_word Toggle mask word
  unfolding xor
  toggle_word = changed_is Toggle mask word (bit_xor word mask) (xor_lt 64 word mask hw hm) (λ j l. digit-xor word mask j ∙ go (digit word j) (digit mask j))
    where
      go : (a b : Bool) → xor a b ≡ cond b (not a) a
      go true true = refl
      go true false = refl
      go false true = refl
      go false false = refl

-- an empty mask changes nothing
pub no_mask : (change : Change) (word : ℕ) → word < 2 ^ 64 → changed_word change 0 word ≡ word
no_mask change word h =
    sym (changed_is change 0 word word h
    (λ j l. sym (ap (λ (b : Bool). cond b (effect change (digit word j)) (digit word j)) (digit_of_zero j))))

-- ---- whole words: all kept or none, all flipped or none

digit_full : (j : ℕ) → j < 64 → digit (2 ^ 64 - 1) j ≡ true
digit_full j h = digit_not 64 0 j (lit< tt) h ∙ ap not (digit_of_zero j)

pub whole_word : (change : Change) (keep flip word : ℕ) → keep < 2 ^ 64 → flip < 2 ^ 64 → word < 2 ^ 64
    → ((j : ℕ) → j < 64 → xor (digit word j && digit keep j) (digit flip j) ≡ effect change (digit word j))
    → bit_xor (bit_and word keep) flip ≡ changed_word change (2 ^ 64 - 1) word
whole_word change keep flip word hk hf hw same =
    changed_is change (2 ^ 64 - 1) word (bit_xor (bit_and word keep) flip) (xor_lt 64 (bit_and word keep) flip (and_lt 64 word keep hw hk) hf)
    (λ j l. digit-xor (bit_and word keep) flip j ∙ ap (λ (b : Bool). xor b (digit flip j)) (digit_and word keep j) ∙ same j l
    ∙ sym (ap (λ (b : Bool). cond b (effect change (digit word j)) (digit word j)) (digit_full j l)))

module _ (word : ℕ) (h : word < 2 ^ 64) where
  pub whole_insert : bit_xor (bit_and word 0) (2 ^ 64 - 1) ≡ changed_word Insert (2 ^ 64 - 1) word
  unfolding xor
  whole_insert = whole_word Insert 0 (2 ^ 64 - 1) word (lit< tt) (lit< tt) h
      (λ j l. ap₂ (λ (k f : Bool). xor (digit word j && k) f) (digit_of_zero j) (digit_full j l) ∙ go (digit word j))
    where
      go : (a : Bool) → xor (a && false) true ≡ true
      go true = refl
      go false = refl

  pub whole_remove : bit_xor (bit_and word 0) 0 ≡ changed_word Remove (2 ^ 64 - 1) word
  unfolding xor
  whole_remove = whole_word Remove 0 0 word (lit< tt) (lit< tt) h
      (λ j l. ap₂ (λ (k f : Bool). xor (digit word j && k) f) (digit_of_zero j) (digit_of_zero j) ∙ go (digit word j))
    where
      go : (a : Bool) → xor (a && false) false ≡ false
      go true = refl
      go false = refl

  pub whole_toggle : bit_xor (bit_and word (2 ^ 64 - 1)) (2 ^ 64 - 1) ≡ changed_word Toggle (2 ^ 64 - 1) word
  unfolding xor
  whole_toggle = whole_word Toggle (2 ^ 64 - 1) (2 ^ 64 - 1) word (lit< tt) (lit< tt) h
      (λ j l. ap₂ (λ (k f : Bool). xor (digit word j && k) f) (digit_full j l) (digit_full j l) ∙ go (digit word j))
    where
      go : (a : Bool) → xor (a && true) true ≡ not a
      go true = refl
      go false = refl
