use mathlib.Core.Path.{◌∙◌}
use Prim.Native.Nat.{◌-◌, ◌≤◌}
use lib.ListN.{length, take, drop}
use Rattle.std.proofs.Common.{length-take, length-drop}
use Rattle.range_counts.proofs.RunLaws.{all_words}
use Rattle.two_set_counts.proofs.RestLaws.{few, rest_ones}
use native.Mathlib.Omega.{arith}
use Rattle.two_set_counts.proofs.rests.ones_from.Goals as goal

pub returns : goal.returns
returns c =
    let s = c.args.set in
    let first = c.args.first in
    let left : length (take (length s.words.now - first) (drop first s.words.now)) ≤ 1024 = rw (length-take, length-drop) (omega (arith, few s)) in
    all_words _ left c.ones_of_words.ensures ∙ rest_ones s first c.requires
