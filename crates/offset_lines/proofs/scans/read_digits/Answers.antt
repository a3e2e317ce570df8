use mathlib.Core.Path.{sym, ◌∙◌}
use native.Mathlib.Nat.{min_comm}
use native.Mathlib.Omega.{arith}
use Rattle.offset_lines.proofs.DigitLaws.{digit_some, digit_none, read_next, read_as, none-not, none_end}
use Rattle.offset_lines.proofs.scans.read_digits.Goals as goal
use Rattle.offset_lines.proofs.scans.read_digits.Goals.{else-loop-byte-test, then-loop-byte-test+in_default}

pub loop-byte-preserved : goal.loop-byte-preserved
loop-byte-preserved c =
    let at = c.loop-byte in
    let i = at.invariant.index in
    let d = digit_some _ _ _ (sym c.digit.ensures ∙ c.in-Some.is) in
    record {
      read = rw (c.min-value.ensures, min_comm, sym d.1, sym i) (read_next at.invariant.read (omega (arith, c.loop-byte-test.true)) (rw (sym i) at d.0));
      index = omega (arith, i);
    }

pub returns : goal.returns
returns c =
    let at = c.loop-byte.invariant in
    elim c.loop-byte-test.branch [
      | else-loop-byte-test w ↦ read_as at.read (none_end at.read (omega (arith, at.index, w.loop-byte-test.false))) _ c.held_value.ensures
      | then-loop-byte-test+in_default w ↦
          read_as at.read (none-not at.read (omega (arith, at.index, w.loop-byte-test.true)) (rw (sym at.index) at (digit_none _ _ (sym w.digit.ensures ∙ w.in_default.is)))) _ c.held_value.ensures
    ]
