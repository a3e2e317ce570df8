use mathlib.Core.Path.{ap}
use Prim.Native.Nat.{ℕ}
use lib.Bits.{bit_and, bit_xor}
use Rattle.blocks.proofs.LoopLaws.{stored-none, stored_more, stored_rest, stored-swept}
use native.Mathlib.Omega.{arith}
use Rattle.blocks.proofs.sweeps.change_blocks.Goals as goal

pub loop-k-init : goal.loop-k-init
loop-k-init c = (omega arith, stored-none _ _ _)

pub loop-k-preserved : goal.loop-k-preserved
loop-k-preserved c =
    let inv = c.loop-k.invariant in
    let a = c.args in (
      omega arith,
      stored_more _ _ _ _ _ inv.1 _ (omega arith) (omega arith)
          (ap (λ (w : ℕ). bit_xor (bit_and w a.keep) a.flip) (stored_rest _ _ _ _ _ inv.1 _ (omega arith))),
    )

pub returns : goal.returns
returns c =
    let a = c.args in
    stored-swept _ _ _ (λ (k w : ℕ). bit_xor (bit_and w a.keep) a.flip) _ _ c.loop-k.invariant.1 (omega arith) (omega arith) (omega arith)
