-- Tests of two sets.
use Rattle.std.specs.Prelude.{Bool, not, ◌&&◌, ◌||◌}
use Rattle.word_bits.specs.Counts.{some, all}
use Rattle.sets.specs.Members.{Members}

-- no common member
abbrev pub disjoint : Members → Members → Bool
disjoint a b = not (some a.len (λ p. a.has p && b.has p))

-- each member of the first is in the second
abbrev pub subset : Members → Members → Bool
subset a b = all a.len (λ p. not (a.has p) || b.has p)
