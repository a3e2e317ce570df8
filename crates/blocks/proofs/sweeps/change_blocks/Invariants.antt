-- The loop has stored the words first..k.
use Prim.Native.Nat.{◌≤◌, max}
use lib.Bits.{bit_and, bit_xor}
use lib.ListN.{get_or}
use Rattle.blocks.proofs.LoopLaws.{Stored}
use Rattle.blocks.proofs.sweeps.change_blocks.Given as goal

abbrev pub invariant-loop-k : goal.invariant-loop-k
invariant-loop-k l = (l.k ≤ max l.first l.k-end) × Stored l.first l.k (λ i. bit_xor (bit_and (get_or l.initial.words i 0) l.keep) l.flip) l.initial.words l.words
