use mathlib.Core.Path.{◌≡◌, sym, ◌∙◌}
use Prim.Native.Nat.{ℕ, ◌-◌, ◌+◌}
use lib.ListN.{get_or}
use Rattle.tests.proofs.ScanLaws.{descend_all, descend_at}
use native.Mathlib.Omega.{arith}
use Rattle.extremes.proofs.by_words.above_last.Goals as goal

pub returns-then-k-eq0 : goal.returns-then-k-eq0
returns-then-k-eq0 c =
    let inv = c.loop-k.invariant in
    let a = c.args in
    c.if-k-eq0.true ∙ sym (descend_all (λ (i : ℕ). get_or c.args.words.now i 0) a.end 0 (λ i h. inv.1 i (omega arith) h))

pub returns-then-words-k-ne0 : goal.returns-then-words-k-ne0
returns-then-words-k-ne0 c =
    let inv = c.loop-k.invariant in
    let a = c.args in
    let k = c.loop-k.k in
    let e : k ≡ k - 1 + 1 = omega arith in
    e ∙ sym (descend_at (λ (i : ℕ). get_or c.args.words.now i 0) a.end 0 (k - 1) (omega arith) c.if-words-k-ne0.true (λ i l h. inv.1 i (omega arith) h))
