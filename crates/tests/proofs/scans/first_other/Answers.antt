use mathlib.Core.Path.{◌≡◌, sym, ◌∙◌}
use Prim.Native.Nat.{ℕ, ◌+◌, ◌-◌, min}
use lib.ListN.{length, get_or}
use Rattle.tests.proofs.ScanLaws.{scan_none, scan_at}
use native.Mathlib.Omega.{arith}
use Rattle.tests.proofs.scans.first_other.Goals as goal

pub returns-then-stop-k : goal.returns-then-stop-k
returns-then-stop-k c =
    let inv = c.loop-k.invariant in
    let a = c.args in
    let end = min a.end (length a.words.now) in
    let e : c.loop-k.k ≡ a.first + (end - a.first) = omega arith in
    e ∙ sym (scan_none (λ (i : ℕ). get_or a.words.now i 0) a.first end a.skip (λ i l h. inv.2 i l (omega arith)))

pub returns-then-words-k : goal.returns-then-words-k
returns-then-words-k c =
    let inv = c.loop-k.invariant in
    let a = c.args in
    sym (scan_at (λ (i : ℕ). get_or a.words.now i 0) a.first (min a.end (length a.words.now)) a.skip c.loop-k.k inv.0 (omega arith) c.if-words-k.true inv.2)
