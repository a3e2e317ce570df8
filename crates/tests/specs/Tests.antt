-- What tests and counts tell of the members of a set, and its least and greatest member.
use Rattle.std.specs.Prelude.{Bool, not, ◌&&◌, ◌||◌, ℕ, suc, ◌-◌, ltb}
use Rattle.word_bits.specs.Counts.{some, all, count, zeros_below, zeros_above}
use Rattle.masks.specs.Ranges.{covers}
use Rattle.sets.specs.Members.{Members}
use Rattle.sets.specs.Outcomes.{place}
use Rattle.std.specs.Prelude.{Option}

-- each position of the range is a member
abbrev pub all_in : ℕ → ℕ → Members → Bool
all_in start end s = all s.len (λ p. not (covers start end p) || s.has p)

-- some position of the range is a member
abbrev pub any_in : ℕ → ℕ → Members → Bool
any_in start end s = some s.len (λ p. covers start end p && s.has p)

-- the members, and the non-members, in the range
abbrev pub ones_in : ℕ → ℕ → Members → ℕ
ones_in start end s = count s.len (λ p. covers start end p && s.has p)

abbrev pub zeroes_in : ℕ → ℕ → Members → ℕ
zeroes_in start end s = count s.len (λ p. covers start end p && not (s.has p))

-- the least member: as many positions stand below it as are no members below the first
abbrev pub least : Members → Option ℕ
least s = place (ltb (zeros_below s.len s.has) s.len) (zeros_below s.len s.has)

-- the greatest member: as many positions of the set stand above it as are no members above the last
abbrev pub greatest : Members → Option ℕ
greatest s = place (ltb (zeros_above s.len s.has) s.len) (s.len - suc (zeros_above s.len s.has))
