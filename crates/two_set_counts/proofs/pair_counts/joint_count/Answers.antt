use mathlib.Core.Path.{◌≡◌, ap₂, ◌∙◌}
use Prim.Native.Nat.{◌+◌}
use Rattle.sets.specs.CheckedSets.{members}
use Rattle.two_set_counts.specs.Helpers.{joint_ones}
use Rattle.two_set_counts.proofs.JointLaws.{two_counts, joint-le}
use native.Mathlib.Omega.{arith}
use Rattle.two_set_counts.proofs.pair_counts.joint_count.Given.{Over}
use Rattle.two_set_counts.proofs.pair_counts.joint_count.Goals as goal
use Rattle.two_set_counts.proofs.pair_counts.joint_count.Goals.{After-ones_beyond}

-- the two parts are all
whole : (g : Over) (c : After-ones_beyond g) → c.ones_common.result + c.ones_beyond.result ≡ joint_ones g.S.Join.operation (members c.args.a) (members c.args.b)
whole g c =
    let a = c.args.a in
    let b = c.args.b in
    ap₂ ◌+◌ c.ones_common.ensures c.ones_beyond.ensures
    ∙ two_counts g.S.Join.operation a b

pub overflow_add-result : goal.overflow_add-result
overflow_add-result g c =
    let a = c.args.a in
    let b = c.args.b in
    omega (arith, whole g (goal.at.overflow_add-result g c).After-ones_beyond, joint-le g.S.Join.operation a b)

pub returns : goal.returns
returns g c = whole g (goal.at.returns g c).After-ones_beyond
