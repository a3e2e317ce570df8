-- Low masks.
use Rattle.std.specs.Prelude.{ℕ, nat_lt}
use Rattle.word_bits.specs.Digits.{number}

-- the word with the lowest r bits set: all 64 for an r above 64
unfoldable pub low_mask : ℕ → ℕ
low_mask r = number 64 (λ j. nat_lt j r)
