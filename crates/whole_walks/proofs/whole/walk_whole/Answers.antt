use mathlib.Core.Path.{sym, ap, ap₂, ◌∙◌}
use mathlib.Core.List.{List, ◌++◌, map}
use Prim.Native.Nat.{ℕ}
use native.Mathlib.Omega.{arith}
use lib.ListN.{length, drop}
use Rattle.std.specs.Prelude.{Option}
use Rattle.sets.specs.declared.answers.Counted.{Counted}
use Rattle.sets.proofs.OutcomeLaws.{given_no, given_yes}
use Rattle.sets.proofs.QuestionLaws.{first-yes}
use Rattle.walks.proofs.WalkLaws.{first_number}
use Rattle.whole_walks.specs.Rules.{answer_word, walk_outcome}
use Rattle.whole_walks.proofs.AnswerLaws.{walk_answers}
use Rattle.whole_walks.proofs.RuleLaws.{count-accepted, answers-yes, answers_no, walk_refused}
use Rattle.whole_walks.proofs.whole.walk_whole.Goals as goal

pub returns-in_err-both : goal.returns-in_err-both
returns-in_err-both c = walk_refused _ _ _ _ c.from_residual.ensures.1 (first_number _ _ c.in_err-both.ensures.number)

pub returns-then-out-steps : goal.returns-then-out-steps
returns-then-out-steps c =
    given_no (λ m. record { number = m; count = 0; out = _ }) _
    (first-yes (sym c.in_ok-both.ensures.number) (sym (answers_no _ _ c.if-out-steps.true))) (λ z. omega arith)

pub returns : goal.returns
returns c =
    let a = c.args in
    let ok = sym c.in_ok-both.ensures.number in
    let same = c.in_ok-both.ensures.same in
    given_yes _ (first-yes ok (sym (answers-yes _ _ c.if-out-steps.false)))
    (ap₂ (λ (r : Counted) (out : List ℕ). walk_outcome r out)
    (c.walk_count.ensures ∙ count-accepted a.a a.words.now a.b a.other.now ok a.walk)
    (c.walk_steps.ensures
    ∙ ap (λ (xs : List (Option ℕ)). map answer_word xs ++ drop (length a.steps.now) a.out.now)
    (walk_answers a.a a.words.now a.b a.other.now a.walk _ same.0 same.1 c.first_part.ensures c.second_part.ensures)))
