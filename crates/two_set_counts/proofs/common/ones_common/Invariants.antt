-- The sum is the ones of the words 0..k, joined.
use mathlib.Core.Path.{◌≡◌}
use Prim.Native.Nat.{◌*◌, ◌≤◌}
use lib.ListN.{get_or}
use Rattle.word_bits.specs.Counts.{count}
use Rattle.word_bits.specs.Digits.{row}
use Rattle.operations.specs.Operations.{joined_word}
use Rattle.two_set_counts.proofs.common.ones_common.Given as goal

abbrev pub invariant-loop-k : goal.invariant-loop-k
invariant-loop-k g l =
    (l.sum ≤ l.k * 64)
    × (l.sum ≡ count (l.k * 64) (row (λ i. joined_word g.S.Join.operation (get_or l.a.words.now i 0) (get_or l.b.words.now i 0))))
