use Prim.Native.Nat.{◌≤◌}
use lib.ListN.{length}
use native.Mathlib.Omega.{arith}
use Rattle.two_sets.proofs.SetJoins.{joined_in_place}
use Rattle.two_sets.proofs.in_place.join_in_place.Goals as goal

pub returns : goal.returns
returns c =
    let a = c.args in
    let q = c.requires in
    let all : length a.other.now ≤ length a.other.now = omega arith in
    rw (c.join_second_alone.ensures, c.join_first_alone.ensures, c.join_common.ensures, c.min-common.ensures)
    (joined_in_place a.operation a.blocks (length a.other.now) a.total a.words.now a.other.now q.1 all q.0 q.2)
