-- Two words joined digit by digit. Assumes nothing.
use mathlib.Core.Path.{◌≡◌, refl, sym, ap, ◌∙◌}
use mathlib.Core.Bool.{Bool, true, false, cond, ◌&&◌, xor, and-false, and-true}
use Prim.Native.Nat.{ℕ, ◌-◌, ◌^◌, ◌<◌}
use native.Mathlib.Nat.{lt_of_le_of_lt}
use lib.Bits.{bit_and, bit_or, bit_xor, and_lt, or_lt, xor_lt, and_le_l}
use lib.Dec.{lit<}
use Rattle.word_bits.specs.Digits.{digit}
use Rattle.word_bits.proofs.Digits.{digit-number, number_is, number_lt, digit_of_zero}
use Rattle.word_bits.proofs.Operations.{digit_and, digit_or, digit-xor, digit_not}
use Rattle.operations.specs.Operations.{joined, joined_word, made_word, Makes}
use Rattle.operations.specs.declared.operation.Operation.{Operation}
use Rattle.operations.specs.declared.operation.Operation.TheVariants.{Union, Intersection, Difference, SymmetricDifference}

module _ (op : Operation) (a b : ℕ) where
  pub joined-lt : joined_word op a b < 2 ^ 64
  unfolding joined_word
  joined-lt = number_lt 64 (λ j. joined op (digit a j) (digit b j))

  pub joined-digit : (j : ℕ) → j < 64 → digit (joined_word op a b) j ≡ joined op (digit a j) (digit b j)
  unfolding joined_word
  joined-digit j h = digit-number 64 (λ i. joined op (digit a i) (digit b i)) j h

  pub joined_is : (x : ℕ) → x < 2 ^ 64 → ((j : ℕ) → j < 64 → digit x j ≡ joined op (digit a j) (digit b j)) → x ≡ joined_word op a b
  unfolding joined_word
  joined_is x h same = number_is 64 x (λ j. joined op (digit a j) (digit b j)) h same

-- ---- by the operators on words

pub word_by : (op : Operation) (a b : ℕ) → a < 2 ^ 64 → b < 2 ^ 64 → made_word op a b ≡ joined_word op a b
word_by Union a b ha hb = joined_is Union a b (bit_or a b) (or_lt 64 a b ha hb) (λ j l. digit_or a b j)
word_by Intersection a b ha hb = joined_is Intersection a b (bit_and a b) (and_lt 64 a b ha hb) (λ j l. digit_and a b j)
word_by Difference a b ha hb =
    joined_is Difference a b (bit_and a (2 ^ 64 - 1 - b)) (lt_of_le_of_lt (and_le_l a (2 ^ 64 - 1 - b)) ha)
    (λ j l. digit_and a (2 ^ 64 - 1 - b) j ∙ ap (λ (t : Bool). digit a j && t) (digit_not 64 b j hb l))
word_by SymmetricDifference a b ha hb = joined_is SymmetricDifference a b (bit_xor a b) (xor_lt 64 a b ha hb) (λ j l. digit-xor a b j)

-- a call that makes what the operators make joins digit by digit
pub joins : (op : Operation) {post : ℕ → ℕ → ℕ → Type 0} → ((a b r : ℕ) → post a b r → r ≡ made_word op a b) → Makes post (joined_word op)
joins op h = λ a b r ha hb p. h a b r p ∙ word_by op a b ha hb

-- ---- with nothing on one side

-- two bits that are no members join to none
pub joined-none : (op : Operation) → joined op false false ≡ false
unfolding xor
joined-none Union = refl
joined-none Intersection = refl
joined-none Difference = refl
joined-none SymmetricDifference = refl

-- a word of which f leaves all or nothing
module _ (f : Bool → Bool) (z : f false ≡ false) (x : ℕ) where
  part_lt : x < 2 ^ 64 → cond (f true) x 0 < 2 ^ 64
  part_lt h = go (f true)
    where
      go : (t : Bool) → cond t x 0 < 2 ^ 64
      go true = h
      go false = lit< tt

  part_digit : (j : ℕ) → digit (cond (f true) x 0) j ≡ f (digit x j)
  part_digit j = go (f true) ∙ under (digit x j)
    where
      go : (t : Bool) → digit (cond t x 0) j ≡ (t && digit x j)
      go true = refl
      go false = digit_of_zero j

      under : (b : Bool) → (f true && b) ≡ f b
      under true = and-true (f true)
      under false = and-false (f true) ∙ sym z

-- where the second set has no word, and where the first has none
pub first_alone : (op : Operation) (a : ℕ) → a < 2 ^ 64 → cond (joined op true false) a 0 ≡ joined_word op a 0
first_alone op a h =
    joined_is op a 0 (cond (joined op true false) a 0) (part_lt (λ p. joined op p false) (joined-none op) a h)
    (λ j l. part_digit (λ p. joined op p false) (joined-none op) a j ∙ ap (joined op (digit a j)) (sym (digit_of_zero j)))

pub second_alone : (op : Operation) (b : ℕ) → b < 2 ^ 64 → cond (joined op false true) b 0 ≡ joined_word op 0 b
second_alone op b h =
    joined_is op 0 b (cond (joined op false true) b 0) (part_lt (joined op false) (joined-none op) b h)
    (λ j l. part_digit (joined op false) (joined-none op) b j ∙ ap (λ (p : Bool). joined op p (digit b j)) (sym (digit_of_zero j)))
