use Prim.Native.Nat.{◌*◌}
use lib.ListN.{length}
use Rattle.calls.specs.Encoding.{decode_all}
use Rattle.calls.proofs.ReplayLaws.{ran, Replaying}
use Rattle.calls.proofs.replays.replay_all.Given as goal

abbrev pub invariant-loop-numbers : goal.invariant-loop-numbers
invariant-loop-numbers l = Replaying l.calls l.positions (ran (decode_all l.positions l.calls) l.initial.first l.initial.words l.initial.second l.initial.other) l.first l.words l.second l.other (length l.initial.words) (length l.initial.other) (5 * l.numbers-index)
