-- Definitions that only the helpers' contracts use.
use Rattle.std.specs.Prelude.{true, false, cond, ℕ, ◌+◌, ◌-◌, max}
use Rattle.word_bits.specs.Counts.{count}
use Rattle.sets.specs.Members.{Members}
use Rattle.operations.specs.Operations.{joined}
use Rattle.operations.specs.declared.operation.Operation.{Operation}

-- how many members two joined sets have
abbrev pub joint_ones : Operation → Members → Members → ℕ
joint_ones op s o = count (max s.len o.len) (λ p. joined op (s.has p) (o.has p))

-- how many members are at `start` or above it
abbrev pub ones_from : ℕ → Members → ℕ
ones_from start s = count (s.len - start) (λ j. s.has (start + j))

-- those that the operation takes: of the first set where the second has none, of the second where the first has none
abbrev pub ones_beyond : Operation → ℕ → Members → Members → ℕ
ones_beyond op start s o = cond (joined op true false) (ones_from start s) 0 + cond (joined op false true) (ones_from start o) 0
