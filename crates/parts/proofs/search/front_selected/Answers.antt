use mathlib.Core.Path.{◌∙◌}
use native.Mathlib.Omega.{arith}
use Rattle.parts.proofs.SelectedEnds.{later_lt, up_lt, up_here, up_empty, up_over, up_later}
use Rattle.parts.proofs.search.front_selected.Goals as goal

pub overflow_add-result : goal.overflow_add-result
overflow_add-result g c =
    let a = c.args in
    omega (arith, c.trailing_zeros.ensures, up_lt g.S.Select.selection a.words.now a.other.now (λ k. (c.type_inv.words k).fits) (λ k. (c.type_inv.other k).fits) a.low a.high c.selected_word.ensures c.if-word-ne0.true)

pub returns-then-word-ne0 : goal.returns-then-word-ne0
returns-then-word-ne0 g c =
    up_here _ _ _ (λ k. (c.type_inv.words k).fits) (λ k. (c.type_inv.other k).fits) _ _ c.selected_word.ensures c.if-word-ne0.true c.trailing_zeros.ensures

pub returns-then-high-low : goal.returns-then-high-low
returns-then-high-low g c =
    up_empty _ _ _ (λ k. (c.type_inv.words k).fits) (λ k. (c.type_inv.other k).fits) _ _ c.selected_word.ensures c.if-word-ne0.false c.if-high-low.true

pub returns-in_err-k : goal.returns-in_err-k
returns-in_err-k g c =
    c.from_residual.ensures
    ∙ up_over _ _ _ (λ k. (c.type_inv.words k).fits) (λ k. (c.type_inv.other k).fits) _ _ c.selected_word.ensures c.if-word-ne0.false c.if-high-low.false c.in_err-k.ensures

pub overflow_add-result-2 : goal.overflow_add-result-2
overflow_add-result-2 g c =
    let a = c.args in
    let found = c.in_ok-k.ensures in
    omega (arith, found.1, c.trailing_zeros-2.ensures, later_lt g.S.Select.selection a.words.now a.other.now (λ k. (c.type_inv.words k).fits) (λ k. (c.type_inv.other k).fits) a.low a.high _ found.3 c.selected_word-2.ensures)

pub returns : goal.returns
returns g c =
    up_later _ _ _ (λ k. (c.type_inv.words k).fits) (λ k. (c.type_inv.other k).fits) _ _ c.selected_word.ensures c.if-word-ne0.false c.if-high-low.false
    c.in_ok-k.ensures c.selected_word-2.ensures c.trailing_zeros-2.ensures
