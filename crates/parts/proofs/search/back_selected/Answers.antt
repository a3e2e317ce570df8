use mathlib.Core.Path.{◌∙◌}
use native.Mathlib.Omega.{arith}
use Rattle.word_bits.proofs.Ends.{above_lt}
use Rattle.parts.proofs.SelectedEnds.{down_inside, down_here, down_empty, down_over, down_later}
use Rattle.parts.proofs.search.back_selected.Goals as goal

pub returns-then-high-low : goal.returns-then-high-low
returns-then-high-low g c =
    down_empty _ _ _ (λ k. (c.type_inv.words k).fits) (λ k. (c.type_inv.other k).fits) _ _ c.if-high-low.true

pub overflow_sub-result : goal.overflow_sub-result
overflow_sub-result g c =
    let a = c.args in
    omega (arith, c.leading_zeros.ensures, (down_inside g.S.Select.selection a.words.now a.other.now (λ k. (c.type_inv.words k).fits) (λ k. (c.type_inv.other k).fits) a.low a.high c.if-high-low.false c.selected_word.ensures c.if-word-ne0.true).0)

pub returns-then-word-ne0 : goal.returns-then-word-ne0
returns-then-word-ne0 g c =
    down_here _ _ _ (λ k. (c.type_inv.words k).fits) (λ k. (c.type_inv.other k).fits) _ _ c.if-high-low.false c.selected_word.ensures c.if-word-ne0.true c.leading_zeros.ensures

pub returns-in_err-k : goal.returns-in_err-k
returns-in_err-k g c =
    c.from_residual.ensures
    ∙ down_over _ _ _ (λ k. (c.type_inv.words k).fits) (λ k. (c.type_inv.other k).fits) _ _ c.if-high-low.false c.selected_word.ensures c.if-word-ne0.false c.in_err-k.ensures

pub overflow_sub-result-2 : goal.overflow_sub-result-2
overflow_sub-result-2 g c =
    omega (arith, c.leading_zeros-2.ensures, above_lt 64 c.selected_word-2.result (omega (arith, c.in_ok-k.ensures.3, c.selected_word-2.ensures)) c.selected_word-2.type_inv)

pub returns : goal.returns
returns g c =
    down_later _ _ _ (λ k. (c.type_inv.words k).fits) (λ k. (c.type_inv.other k).fits) _ _ c.if-high-low.false c.selected_word.ensures c.if-word-ne0.false
    c.in_ok-k.ensures c.selected_word-2.ensures c.leading_zeros-2.ensures
