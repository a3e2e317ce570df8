use mathlib.Core.Path.{refl}
use Prim.Native.Nat.{ℕ}
use lib.ListN.{get_or}
use Rattle.blocks.proofs.LoopLaws.{stored-none, stored_more, stored-swept}
use native.Mathlib.Omega.{arith}
use Rattle.blocks.proofs.sweeps.copy_blocks.Goals as goal

pub loop-k-init : goal.loop-k-init
loop-k-init c = (omega arith, stored-none _ _ _)

pub loop-k-preserved : goal.loop-k-preserved
loop-k-preserved c =
    let inv = c.loop-k.invariant in
    (omega arith, stored_more _ _ _ _ _ inv.1 _ (omega arith) (omega arith) refl)

pub returns : goal.returns
returns c = stored-swept _ _ _ (λ (k w : ℕ). get_or c.args.other.now k 0) _ _ c.loop-k.invariant.1 (omega arith) (omega arith) (omega arith)
