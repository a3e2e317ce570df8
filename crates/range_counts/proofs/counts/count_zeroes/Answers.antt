use mathlib.Core.Path.{◌≡◌, sym}
use Rattle.tests.proofs.AnswerLaws.{counted_yes}
use Rattle.sets.proofs.RefusalLaws.{answer_refused}
use Prim.Native.Nat.{◌-◌}
use Rattle.sets.specs.Members.{read}
use Rattle.tests.specs.Tests.{zeroes_in}
use Rattle.sets.proofs.RangeQuestionLaws.{held_range}
use Rattle.range_counts.proofs.CountLaws.{ones_and_zeroes}
use native.Mathlib.Omega.{arith}
use Rattle.range_counts.proofs.counts.count_zeroes.Goals as goal

pub returns-in_err-check_range : goal.returns-in_err-check_range
returns-in_err-check_range c = answer_refused _ _ _ _ _ c.from_residual.ensures.1 c.in_err-check_range.ensures

pub overflow_sub-result : goal.overflow_sub-result
overflow_sub-result c = omega (arith, (held_range _ _ _ _ (sym c.in_ok-check_range.ensures)).range.ordered)

pub ones_of-requires : goal.ones_of-requires
ones_of-requires c =
    let q = held_range _ _ _ _ (sym c.in_ok-check_range.ensures) in
    (q.held, q.small)

pub overflow_sub-result-2 : goal.overflow_sub-result-2
overflow_sub-result-2 c =
    let a = c.args in
    let q = held_range a.set a.words.now a.start a.end (sym c.in_ok-check_range.ensures) in
    omega (arith, c.ones_of.ensures, ones_and_zeroes a.set a.words.now a.start a.end q.range)

pub returns : goal.returns
returns c =
    let a = c.args in
    let accepted = c.in_ok-check_range.ensures in
    let q = held_range a.set a.words.now a.start a.end (sym accepted) in
    let e : a.end - a.start - c.ones_of.result ≡ zeroes_in a.start a.end (read a.words.now a.set) =
    omega (arith, c.ones_of.ensures, ones_and_zeroes a.set a.words.now a.start a.end q.range) in
    counted_yes accepted e
