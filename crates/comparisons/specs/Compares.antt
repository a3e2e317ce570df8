-- What `cmp` gives as the specification has it.
use Rattle.std.specs.Prelude.{ℕ, Result}
use Rattle.std.specs.declared.cmp.Ordering.{Ordering}
use Rattle.std.specs.declared.cmp.Ordering.TheVariants.{Less, Equal, Greater}
use Rattle.sets.specs.Refusals.{answer_of}
use Rattle.sets.specs.declared.refusal.Refusal.{Refusal}
use Rattle.comparisons.specs.declared.orders.Compared.{Compared}

-- 0 for equal, 1 for below, 2 for above
abbrev pub order_number : Ordering → ℕ
order_number Less = 1
order_number Equal = 0
order_number Greater = 2

-- a refused order is 0
abbrev pub compared_of : Result Ordering Refusal → Compared
compared_of = answer_of (λ m. record { number = m; order = 0 }) (λ o. record { number = 0; order = order_number o })
