-- No pair before the index has it.
use Rattle.std.proofs.Common.{◌≡◌, take, false}
use lib.Dec.{eqb}
use Rattle.std.specs.List.{list_any}
use Rattle.renumber_steps.specs.Pairs.{sided_pair}
use Rattle.renumberings.proofs.finds.has_old.Given as goal

abbrev pub invariant-loop-k : goal.invariant-loop-k
invariant-loop-k g l = list_any (λ p. eqb (sided_pair g.S.Side.back p).old l.offset) (take l.k l.pairs) ≡ false
