use mathlib.Core.Path.{sym, ap, ◌∙◌}
use Prim.Native.Nat.{ℕ, ◌+◌, ◌*◌, ◌<◌}
use lib.ListN.{get_or}
use Rattle.word_bits.specs.Digits.{digit}
use Rattle.word_bits.proofs.Ends.{below_le}
use Rattle.sets.specs.Members.{words_of}
use Rattle.tests.proofs.AnswerLaws.{found_yes}
use Rattle.sets.proofs.RefusalLaws.{answer_refused}
use Rattle.sets.proofs.QuestionLaws.{Valid, valid}
use Rattle.sets.proofs.WordLaws.{words_hold}
use Rattle.std.specs.Prelude.{Some}
use Rattle.extremes.proofs.ExtremeLaws.{least-none, least_at}
use Rattle.tests.proofs.ScanLaws.{scan_whole, scan_before, scan_stop}
use native.Mathlib.Omega.{arith}
use Rattle.extremes.proofs.by_words.minimum.Goals as goal
use Rattle.extremes.proofs.by_words.minimum.Goals.{Else-blocks-k, In_ok-check}

-- the set passes the questions
held : (c : In_ok-check) → Valid c.args.set c.args.words.now
held c = valid _ _ (sym c.in_ok-check.ensures)

-- the word found is one of the set's
inside : (c : Else-blocks-k) → (c.first_other-k.result < words_of c.args.set.length) × (c.first_other-k.result < 1024)
inside c =
    let h = rw c.blocks_of-blocks.ensures at c.if-blocks-k.false in
    (h, omega (arith, h, words_hold c.args.set.length, (valid _ _ (sym c.in_ok-check.ensures)).small))

pub returns-in_err-check : goal.returns-in_err-check
returns-in_err-check c = answer_refused _ _ _ _ _ c.from_residual.ensures.1 c.in_err-check.ensures

pub returns-then-blocks-k : goal.returns-then-blocks-k
returns-then-blocks-k c =
    let a = c.args in
    let w : ℕ → ℕ = λ i. get_or a.words.now i 0 in
    let e = scan_whole w 0 (words_of a.set.length) 0 (held (goal.at.returns-then-blocks-k c).In_ok-check).enough (rw c.blocks_of-blocks.ensures at c.first_other-k.ensures) in
    let h = rw c.blocks_of-blocks.ensures at c.if-blocks-k.true in
    found_yes c.in_ok-check.ensures
    (sym (least-none a.set a.words.now (held (goal.at.returns-then-blocks-k c).In_ok-check)
    (λ k l. scan_before w 0 (words_of a.set.length) 0 c.first_other-k.result e k (omega arith) (omega arith))))

pub overflow_mul-result : goal.overflow_mul-result
overflow_mul-result c = omega (arith, inside (goal.at.overflow_mul-result c).Else-blocks-k)

pub offset_bounds-words-k : goal.offset_bounds-words-k
offset_bounds-words-k c = omega (arith, inside (goal.at.offset_bounds-words-k c).Else-blocks-k)

pub bounds-words-k : goal.bounds-words-k
bounds-words-k c = omega (arith, inside (goal.at.bounds-words-k c).Else-blocks-k, (held (goal.at.bounds-words-k c).In_ok-check).enough)

pub overflow_add-result : goal.overflow_add-result
overflow_add-result c = omega (arith, inside (goal.at.overflow_add-result c).Else-blocks-k, c.trailing_zeros.ensures, below_le 64 (digit (get_or c.args.words.now c.first_other-k.result 0)))

pub returns : goal.returns
returns c =
    let a = c.args in
    let w : ℕ → ℕ = λ i. get_or a.words.now i 0 in
    let n = words_of a.set.length in
    let k = c.first_other-k.result in
    let e = scan_whole w 0 n 0 (held (goal.at.returns c).In_ok-check).enough (rw c.blocks_of-blocks.ensures at c.first_other-k.ensures) in
    let h = rw c.blocks_of-blocks.ensures at c.if-blocks-k.false in
    found_yes c.in_ok-check.ensures
    (ap (λ (t : ℕ). Some (k * 64 + t)) c.trailing_zeros.ensures
    ∙ sym (least_at a.set a.words.now (held (goal.at.returns c).In_ok-check) k h (c.type_inv.words k).fits (scan_stop w 0 n 0 k e h)
    (λ i l. scan_before w 0 n 0 k e i (omega arith) l)))
