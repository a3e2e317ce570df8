-- What an operation does to two bits and to two words.
use Rattle.std.specs.Prelude.{◌≡◌, Bool, cond, not, ◌&&◌, ◌||◌, List, ℕ, ◌-◌, ◌^◌, ◌<◌, ltb, get_or}
use Rattle.std.specs.Bool.{xor}
use Rattle.std.specs.Int.Bits.{bit_and, bit_or, bit_xor}
use Rattle.word_bits.specs.Digits.{digit, number}
use Rattle.operations.specs.declared.operation.Operation.{Operation}
use Rattle.operations.specs.declared.operation.Operation.TheVariants.{Union, Intersection, Difference, SymmetricDifference}

-- or, and, and not, exclusive or
abbrev pub joined : Operation → Bool → Bool → Bool
joined Union a b = a || b
joined Intersection a b = a && b
joined Difference a b = a && not b
joined SymmetricDifference a b = xor a b

-- two words joined digit by digit
unfoldable pub joined_word : Operation → ℕ → ℕ → ℕ
joined_word op a b = number 64 (λ j. joined op (digit a j) (digit b j))

-- what an operation makes of two words: by the operators on words
abbrev pub made_word : Operation → ℕ → ℕ → ℕ
made_word Union a b = bit_or a b
made_word Intersection a b = bit_and a b
made_word Difference a b = bit_and a (2 ^ 64 - 1 - b)
made_word SymmetricDifference a b = bit_xor a b

-- a call on two words of 64 bits, with `post` for what it can return, makes `op` of them
abbrev pub Makes : (ℕ → ℕ → ℕ → Type 0) → (ℕ → ℕ → ℕ) → Type 0
Makes post op = (a b r : ℕ) → a < 2 ^ 64 → b < 2 ^ 64 → post a b r → r ≡ op a b

-- word k of a set of n words: 0 from n up
abbrev pub padded : ℕ → List ℕ → ℕ → ℕ
padded n ws k = cond (ltb k n) (get_or ws k 0) 0
