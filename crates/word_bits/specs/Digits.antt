-- A number as its binary digits, digit 0 lowest, and 64 of them as a word.
use Rattle.std.specs.Prelude.{ℕ, zero, suc, ◌+◌, ◌*◌, ◌/◌, ◌%◌, ◌^◌, Bool, cond, ◌==◌}

-- digit j of x: yes where it is 1
unfoldable pub digit : ℕ → ℕ → Bool
digit x j = x / 2 ^ j % 2 == 1

-- a yes counts 1, a no 0
abbrev pub one : Bool → ℕ
one b = cond b 1 0

-- the number whose digits below n are those of f, and whose other digits are 0
unfoldable pub number : ℕ → (ℕ → Bool) → ℕ
number zero f = 0
number (suc n) f = number n f + one (f n) * 2 ^ n

-- word k of a set of positions: position p is bit p mod 64 of word p / 64
unfoldable pub word_of : (ℕ → Bool) → ℕ → ℕ
word_of m k = number 64 (λ j. m (k * 64 + j))

-- the bits of the words f 0, f 1 and so on
unfoldable pub row : (ℕ → ℕ) → ℕ → Bool
row f p = digit (f (p / 64)) (p % 64)
