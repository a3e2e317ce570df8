use mathlib.Core.Path.{ap, ◌∙◌}
use Rattle.comparisons.specs.Compares.{order_number}
use Rattle.comparisons.proofs.OrderLaws.{order_bits}
use Rattle.comparisons.proofs.orders.words_order.Goals as goal

pub returns : goal.returns
returns c = λ long. ap order_number c.cmp.ensures ∙ order_bits _ _ (record { fits = λ k. (c.shared_slice_known-1.given k).fits }) (record { fits = λ k. (c.shared_slice_known-2-1.given k).fits }) long
