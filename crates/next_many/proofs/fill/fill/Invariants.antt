-- a turn of the inner loop takes a front step, a turn of the outer passes a word that is over.
use Prim.Native.Nat.{◌-◌}
use Rattle.next_many.proofs.FillLaws.{Filling}
use Rattle.next_many.proofs.fill.fill.Given as goal

abbrev pub invariant-loop-rest-2 : goal.invariant-loop-rest-2
invariant-loop-rest-2 g l = Filling g.S.Select.selection l.words l.other l.part.high l.part.low l.fn.out l.k l.rest l.count l.low l.out

abbrev pub decreases-loop-rest-2 : goal.decreases-loop-rest-2
decreases-loop-rest-2 g l = l.part.high - l.low

abbrev pub invariant-loop-rest : goal.invariant-loop-rest
invariant-loop-rest g l = Filling g.S.Select.selection l.words l.other l.part.high l.part.low l.fn.out l.k l.rest l.count l.low l.out

abbrev pub decreases-loop-rest : goal.decreases-loop-rest
decreases-loop-rest g l = l.end - l.k
