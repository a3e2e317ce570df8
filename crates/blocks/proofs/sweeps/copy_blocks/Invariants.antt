-- The loop has stored the words first..k.
use Prim.Native.Nat.{◌≤◌, max}
use lib.ListN.{get_or}
use Rattle.blocks.proofs.LoopLaws.{Stored}
use Rattle.blocks.proofs.sweeps.copy_blocks.Given as goal

abbrev pub invariant-loop-k : goal.invariant-loop-k
invariant-loop-k l = (l.k ≤ max l.first l.k-end) × Stored l.first l.k (λ i. get_or l.other i 0) l.initial.words l.words
