use Prim.Native.Nat.{◌*◌, ◌≤◌}
use Rattle.two_set_counts.proofs.RestLaws.{rest_le}
use native.Mathlib.Omega.{arith}
use Rattle.two_set_counts.proofs.rests.ones_beyond.Goals as goal
use Rattle.two_set_counts.proofs.rests.ones_beyond.Goals.{then-first_alone, else-first_alone, then-second_alone, else-second_alone}

pub overflow_add-result : goal.overflow_add-result
overflow_add-result g c =
    let small : c.if-first_alone.first ≤ 65536 = elim c.if-first_alone.branch [
      | then-first_alone w ↦ omega (arith, w.first-is, w.ones_from-first.ensures, rest_le c.args.a (c.min-shared.result * 64))
      | else-first_alone w ↦ omega (arith, w.first-is)
    ] in
    let little : c.if-second_alone.second ≤ 65536 = elim c.if-second_alone.branch [
      | then-second_alone w ↦ omega (arith, w.second-is, w.ones_from-second.ensures, rest_le c.args.b (c.min-shared.result * 64))
      | else-second_alone w ↦ omega (arith, w.second-is)
    ] in
    omega (arith, small, little)
