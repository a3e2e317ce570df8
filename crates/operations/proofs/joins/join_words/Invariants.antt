-- The loop has stored the words 0..k.
use Prim.Native.Nat.{◌≤◌}
use lib.ListN.{get_or}
use Rattle.blocks.proofs.LoopLaws.{Stored}
use Rattle.operations.specs.Operations.{joined_word}
use Rattle.operations.proofs.joins.join_words.Given as goal

abbrev pub invariant-loop-k : goal.invariant-loop-k
invariant-loop-k g l =
    (l.k ≤ l.k-end) × Stored 0 l.k (λ i. joined_word g.S.Join.operation (get_or l.initial.words i 0) (get_or l.other i 0)) l.initial.words l.words
