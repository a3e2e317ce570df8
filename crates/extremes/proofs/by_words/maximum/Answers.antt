use mathlib.Core.Path.{◌≡◌, sym, ap, ◌∙◌}
use Prim.Native.Nat.{ℕ, ◌+◌, ◌-◌, ◌*◌, ◌<◌, ◌≤◌}
use lib.ListN.{get_or}
use Rattle.word_bits.proofs.Ends.{above_lt}
use Rattle.sets.specs.Members.{words_of}
use Rattle.tests.proofs.AnswerLaws.{found_yes}
use Rattle.sets.proofs.RefusalLaws.{answer_refused}
use Rattle.sets.proofs.QuestionLaws.{Valid, valid}
use Rattle.sets.proofs.WordLaws.{words_hold}
use Rattle.std.specs.Prelude.{Some}
use Rattle.extremes.proofs.ExtremeLaws.{greatest-none, greatest_at}
use Rattle.tests.proofs.ScanLaws.{descend_after, descend_stop}
use native.Mathlib.Omega.{arith}
use Rattle.extremes.proofs.by_words.maximum.Goals as goal
use Rattle.extremes.proofs.by_words.maximum.Goals.{After-leading_zeros-zeros, Else-above-eq0, In_ok-check}

-- the set passes the questions
held : (c : In_ok-check) → Valid c.args.set c.args.words.now
held c = valid _ _ (sym c.in_ok-check.ensures)

-- the word found is one of the set's
inside : (c : Else-above-eq0) → (c.above_last-above.result ≤ words_of c.args.set.length) × (c.above_last-above.result ≤ 1024)
inside c =
    let e = rw c.blocks_of.ensures at c.above_last-above.ensures in
    (omega (arith, e), omega (arith, e, words_hold c.args.set.length, (valid _ _ (sym c.in_ok-check.ensures)).small))

-- and has a bit set
low : (c : After-leading_zeros-zeros) → c.leading_zeros-zeros.result < 64
low c =
    let a = c.args in
    let r = c.above_last-above.result in
    let n = descend_stop (λ i. get_or a.words.now i 0) (words_of a.set.length) 0 r (rw c.blocks_of.ensures at c.above_last-above.ensures) c.if-above-eq0.false in
    rw c.leading_zeros-zeros.ensures (above_lt 64 (get_or a.words.now (r - 1) 0) (omega (arith, n)) (c.type_inv.words (r - 1)).fits)

pub returns-in_err-check : goal.returns-in_err-check
returns-in_err-check c = answer_refused _ _ _ _ _ c.from_residual.ensures.1 c.in_err-check.ensures

pub above_last-above-requires : goal.above_last-above-requires
above_last-above-requires c = rw c.blocks_of.ensures (held (goal.at.above_last-above-requires c).In_ok-check).enough

pub returns-then-above-eq0 : goal.returns-then-above-eq0
returns-then-above-eq0 c =
    let a = c.args in
    let w : ℕ → ℕ = λ i. get_or a.words.now i 0 in
    let e = rw c.blocks_of.ensures at c.above_last-above.ensures in
    found_yes c.in_ok-check.ensures
    (sym (greatest-none a.set a.words.now (held (goal.at.returns-then-above-eq0 c).In_ok-check)
    (λ k l. descend_after w (words_of a.set.length) 0 c.above_last-above.result e k (omega arith) l)))

pub offset_bounds-words-above : goal.offset_bounds-words-above
offset_bounds-words-above c = omega (arith, inside (goal.at.offset_bounds-words-above c).Else-above-eq0)

pub bounds-words-above : goal.bounds-words-above
bounds-words-above c = omega (arith, inside (goal.at.bounds-words-above c).Else-above-eq0, c.if-above-eq0.false, (held (goal.at.bounds-words-above c).In_ok-check).enough)

pub overflow_mul-result : goal.overflow_mul-result
overflow_mul-result c = omega (arith, inside (goal.at.overflow_mul-result c).Else-above-eq0)

pub overflow_sub-result-2 : goal.overflow_sub-result-2
overflow_sub-result-2 c = omega (arith, c.if-above-eq0.false, low (goal.at.overflow_sub-result-2 c).After-leading_zeros-zeros)

pub returns : goal.returns
returns c =
    let a = c.args in
    let w : ℕ → ℕ = λ i. get_or a.words.now i 0 in
    let n = words_of a.set.length in
    let r = c.above_last-above.result in
    let z = c.leading_zeros-zeros.result in
    let e = rw c.blocks_of.ensures at c.above_last-above.ensures in
    let same : r * 64 - 1 - z ≡ (r - 1) * 64 + (63 - z) = omega (arith, low (goal.at.returns c).After-leading_zeros-zeros, c.if-above-eq0.false) in
    found_yes c.in_ok-check.ensures
    (ap Some same ∙ ap (λ (t : ℕ). Some ((r - 1) * 64 + (63 - t))) c.leading_zeros-zeros.ensures
    ∙ sym (greatest_at a.set a.words.now (held (goal.at.returns c).In_ok-check) (r - 1) (omega (arith, inside (goal.at.returns c).Else-above-eq0, c.if-above-eq0.false)) (c.type_inv.words (r - 1)).fits (descend_stop w n 0 r e c.if-above-eq0.false)
    (λ i l h. descend_after w n 0 r e i (omega arith) h)))
