use mathlib.Core.Path.{◌≡◌, sym, ap, ◌∙◌}
use mathlib.Core.Bool.{not}
use Prim.Native.Nat.{ℕ, ◌/◌, ◌%◌}
use native.Mathlib.Omega.{arith}
use lib.Bits.{bit_and}
use lib.Dec.{eqb}
use lib.ListN.{get_or}
use Rattle.word_bits.proofs.SingleBit.{single_bit, test_bit}
use Rattle.sets.specs.Members.{bit_of}
use Rattle.sets.proofs.QuestionLaws.{valid}
use Rattle.sets.proofs.ReadLaws.{read_below, read_above}
use Rattle.sets.proofs.RefusalLaws.{answer_refused}
use Rattle.sets.proofs.WordLaws.{word_of_lem}
use Rattle.tests.proofs.AnswerLaws.{told_yes}
use Rattle.tests.proofs.positions.contains.Goals as goal

pub returns-in_err-check : goal.returns-in_err-check
returns-in_err-check c = answer_refused _ _ _ _ _ c.from_residual.ensures.1 c.in_err-check.ensures

pub returns-then-set-bit : goal.returns-then-set-bit
returns-then-set-bit c = told_yes c.in_ok-check.ensures (sym (read_above _ _ _ c.if-set-bit.true))

pub bounds-words-bit : goal.bounds-words-bit
bounds-words-bit c =
    let v = valid _ _ (sym c.in_ok-check.ensures) in
    let w = word_of_lem _ _ c.if-set-bit.false in
    omega arith

pub returns : goal.returns
unfolding bit_of
returns c =
    let a = c.args in
    let word : ℕ = get_or a.words.now (a.bit / 64) 0 in
    told_yes c.in_ok-check.ensures
    (ap (λ (m : ℕ). not (eqb (bit_and word m) 0)) (single_bit (a.bit % 64) (omega arith))
    ∙ test_bit word (a.bit % 64) (omega arith) ∙ sym (read_below _ _ _ c.if-set-bit.false))
