-- What is told of two values that are held up to 65,536: none is a larger one.
use Rattle.std.specs.Prelude.{cond, ◌||◌, ℕ, eqb, Option, Result, Ok, Err}
use Rattle.offset_lines.specs.Held.{held_offset}
use Rattle.offset_lines.specs.declared.entry.Fault.{Fault}
use Rattle.offset_lines.specs.declared.entry.Fault.TheVariants.{NotTwoNumbers}
use Rattle.pair_lines.specs.declared.pair.Pair.{Pair}

-- two offsets, where both are there
abbrev pub both : Result ℕ Fault → Result ℕ Fault → Result Pair Fault
both (Ok old) (Ok new) = Ok (record { old = old; new = new })
both (Ok old) (Err fault) = Err fault
both (Err fault) new = Err fault

-- two numbers of so many digits
unfoldable pub held_pair : ℕ → Option ℕ → ℕ → Option ℕ → Result Pair Fault
held_pair olds old news new = cond (eqb olds 0 || eqb news 0) (Err NotTwoNumbers) (both (held_offset old) (held_offset new))
