-- The offsets that a file names, as a set.
use Rattle.std.specs.Prelude.{List, ℕ}
use Rattle.sets.specs.Members.{Members, read}
use Rattle.sets.specs.declared.fixed_bit_set.FixedBitSet.{FixedBitSet}

-- the offsets of 0 to 65,535, and a set of them from its words
abbrev pub all_offsets : FixedBitSet
all_offsets = record { length = 65536 }

abbrev pub offsets_of : List ℕ → Members
offsets_of ws = read ws all_offsets
