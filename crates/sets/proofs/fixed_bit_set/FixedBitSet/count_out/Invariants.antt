use Rattle.std.proofs.Common.{◌≡◌, nat_le}
use Rattle.std.specs.Prelude.{count_by}
use lib.ListN.{take}
use Rattle.sets.proofs.fixed_bit_set.FixedBitSet.count_out.Given as goal

abbrev pub invariant-loop-p : goal.invariant-loop-p
invariant-loop-p l = l.out ≡ count_by (λ p. nat_le l.length p) (take l.p-index l.positions)
