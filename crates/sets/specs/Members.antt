-- What a set is: a length, a yes or no for each position, and the lent words that hold them.
use Rattle.std.specs.Prelude.{Bool, false, cond, ◌&&◌, List, [], ◌∷◌, ◌++◌, ℕ, zero, suc, ◌+◌, ◌/◌, ◌%◌, ltb, get_or, drop}
use Rattle.word_bits.specs.Digits.{digit, word_of}
use Rattle.sets.specs.declared.fixed_bit_set.FixedBitSet.{FixedBitSet}

-- the length L, and which positions are members; at L and above it none is
pub record Members : Type 0 where
  pub len : ℕ
  pub has : ℕ → Bool

-- W, the number of words of n bits: n divided by 64, rounded up
unfoldable pub words_of : ℕ → ℕ
words_of n = (n + 63) / 64

-- position p is bit p mod 64 of word p / 64
unfoldable pub bit_of : List ℕ → ℕ → Bool
bit_of ws p = digit (get_or ws (p / 64) 0) (p % 64)

-- the set that a length and lent words are: p is a member when its bit is 1 and p < L
unfoldable pub read : List ℕ → FixedBitSet → Members
read ws set = record { len = set.length; has = λ p. ltb p set.length && bit_of ws p }

-- the first n words of a set of positions
abbrev pub words_from : (ℕ → Bool) → ℕ → ℕ → List ℕ
words_from m k zero = []
words_from m k (suc n) = word_of m k ∷ words_from m (suc k) n

-- the lent words with the set written into its W words; the words after them belong to the caller
unfoldable pub write : List ℕ → Members → List ℕ
write ws s = words_from s.has 0 (words_of s.len) ++ drop (words_of s.len) ws

-- a set's value is its length
abbrev pub set_of : Members → FixedBitSet
set_of s = record { length = s.len }

-- n bits, none of them a member
abbrev pub empty : ℕ → Members
empty n = record { len = n; has = λ p. false }

-- the one edit: f of what was there at each position that `here` names, what was there at any other
unfoldable pub changed : (ℕ → Bool) → (Bool → Bool) → Members → Members
changed here f s = record { len = s.len; has = λ p. cond (here p) (f (s.has p)) (s.has p) }
