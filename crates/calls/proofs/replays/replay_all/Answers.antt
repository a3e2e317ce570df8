use mathlib.Core.List.{List}
use mathlib.Core.Path.{◌≡◌, ap, ◌∙◌}
use Prim.Native.Nat.{ℕ, ◌+◌, ◌*◌}
use native.Mathlib.Omega.{arith}
use Rattle.calls.specs.Encoding.{decode_all}
use Rattle.calls.proofs.ReplayLaws.{again, five_at, over, ran}
use Rattle.calls.proofs.replays.replay_all.Goals as goal

pub loop-numbers-preserved : goal.loop-numbers-preserved
loop-numbers-preserved c =
    let next : 5 * (c.loop-numbers.numbers-index + 1) ≡ 5 * c.loop-numbers.numbers-index + 5 = omega arith in
    rw next
    (again _ _ _ _ _ _ _ _ _ _ c.loop-numbers.invariant (omega arith)
    (c.replay_one.ensures ∙ ap (λ (ns : List ℕ). ran (decode_all c.args.positions.now ns) c.loop-numbers.first c.loop-numbers.words c.loop-numbers.second c.loop-numbers.other) (five_at _ _ _ c.as_chunks.ensures.front c.loop-numbers-test.true)))

pub returns : goal.returns
returns c = over _ _ _ _ _ _ _ _ _ _ c.loop-numbers.invariant (omega arith)
