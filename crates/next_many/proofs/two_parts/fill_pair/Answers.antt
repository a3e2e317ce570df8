use mathlib.Core.Path.{sym, ap, ap₂, ◌∙◌}
use mathlib.Core.List.{List, ◌++◌}
use Prim.Native.Nat.{ℕ, ◌+◌}
use native.Mathlib.Omega.{arith}
use lib.ListN.{length, take}
use Rattle.sets.specs.CheckedSets.{members}
use Rattle.sets.specs.Members.{Members}
use Rattle.sets.proofs.OutcomeLaws.{given_yes}
use Rattle.sets.proofs.QuestionLaws.{first-yes}
use Rattle.parts.specs.Selections.{Difference}
use Rattle.walks.specs.Helpers.{chosen}
use Rattle.walks.specs.Rules.{without}
use Rattle.walks.proofs.WalkLaws.{first_number}
use Rattle.next_many.specs.Calls.{accepted_pair}
use Rattle.next_many.specs.Many.{front_steps, front_pairs}
use Rattle.next_many.specs.Rules.{many_pair_outcome, written, written_pair}
use Rattle.next_many.proofs.CallLaws.{part_room, pair_refused, after_all, from_on, pair_written}
use Rattle.next_many.proofs.two_parts.fill_pair.Goals as goal

pub returns-in_err-both : goal.returns-in_err-both
returns-in_err-both g c = pair_refused _ _ _ _ _ _ c.from_residual.ensures.1 (first_number _ _ c.in_err-both.ensures.number)

pub returns-in_err-ask_part : goal.returns-in_err-ask_part
returns-in_err-ask_part g c =
    pair_refused _ _ _ _ _ _ c.from_residual-in_err-ask_part.ensures.1 (first-yes (sym c.in_ok-both.ensures.number) (first_number _ _ c.in_err-ask_part.ensures))

pub returns-in_err-ask_part-2 : goal.returns-in_err-ask_part-2
returns-in_err-ask_part-2 g c =
    pair_refused _ _ _ _ _ _ c.from_residual-in_err-ask_part-2.ensures.1
    (first-yes (sym c.in_ok-both.ensures.number) (first-yes (sym c.in_ok-ask_part.ensures) c.in_err-ask_part-2.ensures))

pub fill_part-first-requires : goal.fill_part-first-requires
fill_part-first-requires g c = part_room c.in_ok-both.both.0 c.args.words.now c.args.a c.args.one c.in_ok-both.ensures.same.0 c.in_ok-ask_part.ensures

pub fill_part-second-requires : goal.fill_part-second-requires
fill_part-second-requires g c = part_room c.in_ok-both.both.1 c.args.other.now c.args.b c.args.two c.in_ok-both.ensures.same.1 c.in_ok-ask_part-2.ensures

pub returns : goal.returns
returns g c =
    let a = c.args in
    let both = c.in_ok-both.both in
    let same = c.in_ok-both.ensures.same in
    let first = c.fill_part-first.result in
    let second = c.fill_part-second.result in
    let xs = c.fill_part-first.new.out in
    given_yes _ (first-yes (sym c.in_ok-both.ensures.number) (first-yes (sym c.in_ok-ask_part.ensures) c.in_ok-ask_part-2.ensures))
    (ap (λ (zs : List ℕ). many_pair_outcome (accepted_pair (record { count = first.count + second.count; one = first.part; two = second.part })) (take first.count xs ++ zs))
    (after_all first.count xs c.fill_part-second.new.out (omega (arith, c.fill_part-first.ensures.room)))
    ∙ pair_written _ _ a.one a.two a.out.now c.fill_part-first.ensures.steps
    (c.fill_part-second.ensures.steps ∙ ap (λ (zs : List ℕ). written zs (front_steps (length zs) (chosen Difference (members both.1) (members both.0)) a.two)) (from_on first.count xs))
    ∙ ap₂ (λ (x y : Members). written_pair a.out.now (front_pairs (length a.out.now) (chosen g.S.Select.selection x y) (without y x) a.one a.two)) same.0 same.1)
