-- The bytes so far are digits of that value.
use Rattle.std.proofs.Common.{◌≡◌}
use Rattle.offset_lines.proofs.DigitLaws.{Read}
use Rattle.offset_lines.proofs.scans.read_digits.Given as goal

abbrev pub invariant-loop-byte : goal.invariant-loop-byte
invariant-loop-byte l = record { read : Read l.base l.text l.count l.value; index : l.count ≡ l.byte-index }
