use Rattle.sets.proofs.QuestionLaws.{both_valid}
use Rattle.calls.proofs.HistoryLaws.{made_on_a, made_on_b, made_on_neither, made_none}
use native.Mathlib.Omega.{arith}
use Rattle.calls.proofs.replays.replay_one.Goals as goal

pub returns-in_default : goal.returns-in_default
returns-in_default c =
    let a = c.args in
    let v = both_valid a.a a.words.now a.b a.other.now c.requires in
    made_none a.a a.words.now a.b a.other.now v.one v.two (λ k. (c.slice_known-1.given k).fits) (λ k. (c.slice_known-2-1.given k).fits) a.positions.now a.numbers (omega arith) c.in_default.ensures

pub returns-in-0 : goal.returns-in-0
returns-in-0 c =
    let a = c.args in
    let v = both_valid a.a a.words.now a.b a.other.now c.requires in
    made_on_a a.a a.words.now a.b a.other.now v.one v.two (λ k. (c.slice_known-1.given k).fits) (λ k. (c.slice_known-2-1.given k).fits) a.positions.now a.numbers (omega arith) c.in-0.is _ c.in-Some.ensures _ _ _ c.unwrap_or.ensures c.make_call.ensures

pub returns-in-1 : goal.returns-in-1
returns-in-1 c =
    let a = c.args in
    let v = both_valid a.a a.words.now a.b a.other.now c.requires in
    made_on_b a.a a.words.now a.b a.other.now v.one v.two (λ k. (c.slice_known-1.given k).fits) (λ k. (c.slice_known-2-1.given k).fits) a.positions.now a.numbers (omega arith) c.in-1.is _ c.in-Some.ensures _ _ _ c.unwrap_or-in-1.ensures c.make_call-in-1.ensures

pub returns-in_default-on : goal.returns-in_default-on
returns-in_default-on c =
    let a = c.args in
    let v = both_valid a.a a.words.now a.b a.other.now c.requires in
    let r = c.in_default-on.in_default-on-own.rest in
    made_on_neither a.a a.words.now a.b a.other.now v.one v.two (λ k. (c.slice_known-1.given k).fits) (λ k. (c.slice_known-2-1.given k).fits) a.positions.now a.numbers (omega arith) r.0.1 r.1
