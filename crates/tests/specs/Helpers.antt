-- Definitions that only the helpers' contracts use.
use Rattle.std.specs.Prelude.{Bool, List, ℕ, ◌%◌}
use Rattle.std.specs.Bool.{xor}
use Rattle.word_bits.specs.Digits.{digit}
use Rattle.sets.specs.Members.{bit_of}

-- the bit of a position is not the one that the word `skip` has in its place
unfoldable pub differs : List ℕ → ℕ → ℕ → Bool
differs ws skip p = xor (bit_of ws p) (digit skip (p % 64))
