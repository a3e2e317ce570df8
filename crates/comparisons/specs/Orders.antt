-- Equality and order of two sets.
use Rattle.std.specs.Prelude.{Bool, cond, ◌&&◌, ℕ, zero, suc, eqb, ltb}
use Rattle.std.specs.Bool.{beq}
use Rattle.word_bits.specs.Counts.{all}
use Rattle.word_bits.specs.Digits.{word_of}
use Rattle.sets.specs.Members.{Members, words_of}

-- equal means equal length and members
abbrev pub equal : Members → Members → Bool
equal a b = eqb a.len b.len && all a.len (λ p. beq (a.has p) (b.has p))

-- 0 for equal, 1 for below, 2 for above
abbrev pub order_of : ℕ → ℕ → ℕ → ℕ
order_of x y rest = cond (ltb x y) 1 (cond (ltb y x) 2 rest)

-- n words from word k upwards, as unsigned numbers: the first that differ decide
unfoldable pub words_order : ℕ → ℕ → (ℕ → Bool) → (ℕ → Bool) → ℕ
words_order k zero f g = 0
words_order k (suc n) f g = order_of (word_of f k) (word_of g k) (words_order (suc k) n f g)

-- length first, then words from word 0 upwards
abbrev pub order : Members → Members → ℕ
order a b = order_of a.len b.len (words_order 0 (words_of a.len) a.has b.has)
