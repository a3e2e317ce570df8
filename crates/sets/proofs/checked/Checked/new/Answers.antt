use mathlib.Core.Path.{sym, ap, ◌∙◌}
use native.Mathlib.Omega.{arith}
use Prim.Native.Nat.{ℕ}
use lib.ListN.{take}
use lib.Seq.{length-take-le}
use Rattle.sets.specs.Members.{Members, read}
use Rattle.sets.specs.Checks.{Sound}
use Rattle.sets.proofs.QuestionLaws.{valid}
use Rattle.sets.proofs.OwnWordsLaws.{own_sound, own_members}
use Rattle.sets.proofs.checked.Checked.new.Goals as goal

pub slice_bounds-result-end : goal.slice_bounds-result-end
slice_bounds-result-end c =
    let v = valid _ _ (sym c.in_ok-check.ensures) in
    rw c.blocks_of.ensures (sym (length-take-le _ _ v.enough))

pub invariant_of-result : goal.invariant_of-result
invariant_of-result c = record { sound = rw c.blocks_of.ensures (own_sound _ _ (sym c.in_ok-check.ensures)) }

pub returns-clause-same : goal.returns-clause-same
returns-clause-same c = rw c.blocks_of.ensures (own_members _ _)
