use Rattle.std.proofs.Common.{rules}
use Rattle.comparisons.proofs.EqualLaws.{same_bits}
use Rattle.comparisons.proofs.orders.same.Goals as goal

pub returns : goal.returns
returns c = λ long. same_bits _ _ (record { fits = λ k. (c.shared_slice_known-1.given k).fits }) (record { fits = λ k. (c.shared_slice_known-2-1.given k).fits }) long _ (search rules)
