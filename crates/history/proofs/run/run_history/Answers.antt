use mathlib.Core.Path.{◌≡◌, sym}
use Rattle.sets.proofs.RefusalLaws.{number_ne0}
use Rattle.history.specs.Runs.{Input, input_of, questions_of}
use Rattle.history.proofs.RunLaws.{accepted, calls-made, fresh, passed, walk_made}
use Rattle.history.proofs.run.run_history.Goals as goal
use Rattle.history.proofs.run.run_history.Goals.{In_ok-check_run}

abbrev lent : In_ok-check_run → Input
lent c = let a = c.args in input_of a.a_bits a.words.now a.b_bits a.other.now a.calls.now a.positions.now a.walk a.steps.now a.out.now

-- no question says no
asked : (c : In_ok-check_run) → questions_of (lent c) ≡ 0
asked c = sym c.in_ok-check_run.ensures

pub returns-in_err-fresh_a : goal.returns-in_err-fresh_a
returns-in_err-fresh_a c =
    let start = (goal.at.returns-in_err-fresh_a c).In_ok-check_run in
    absurd (number_ne0 _ (fresh _ _ (passed (lent start) (asked start)).0 c.in_err-fresh_a.ensures))

pub returns-in_err-fresh_b : goal.returns-in_err-fresh_b
returns-in_err-fresh_b c =
    let start = (goal.at.returns-in_err-fresh_b c).In_ok-check_run in
    absurd (number_ne0 _ (fresh _ _ (passed (lent start) (asked start)).1 c.in_err-fresh_b.ensures))

pub returns-in_err-a : goal.returns-in_err-a
returns-in_err-a c =
    let start = (goal.at.returns-in_err-a c).In_ok-check_run in
    absurd (number_ne0 _ (calls-made (lent start) (asked start) c.in_ok-fresh_a.ensures c.in_ok-fresh_b.ensures c.in_err-a.ensures))

pub returns-in_err-count : goal.returns-in_err-count
returns-in_err-count c =
    let start = (goal.at.returns-in_err-count c).In_ok-check_run in
    absurd (number_ne0 _ (walk_made (lent start) (asked start) c.in_ok-fresh_a.ensures c.in_ok-fresh_b.ensures c.in_ok-a.ensures c.in_err-count.ensures))

pub returns : goal.returns
returns c =
    let start = (goal.at.returns c).In_ok-check_run in
    record {
      refused = λ n. absurd (n (asked start));
      accepted = λ e. accepted (lent start) e c.in_ok-fresh_a.ensures c.in_ok-fresh_b.ensures c.in_ok-a.ensures c.in_ok-count.ensures;
    }
