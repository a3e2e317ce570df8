use native.Mathlib.Omega.{arith}
use Rattle.byte_texts.specs.Texts.{visible}
use Rattle.byte_texts.proofs.GrowthLaws.{appended_is, appended_by}
use Rattle.byte_texts.proofs.WriteLaws.{fits_end, written_shown}
use Rattle.byte_texts.proofs.TextLaws.{written_inside}
use Rattle.byte_texts.proofs.texts.Text.append_visible.Goals as goal

pub slice_bounds-show-count : goal.slice_bounds-show-count
slice_bounds-show-count c =
    let f = fits_end _ _ _ _ _ c.min-start.ensures c.append.ensures.end in
    omega (arith, f.until)

pub slice_bounds-show-start : goal.slice_bounds-show-start
slice_bounds-show-start c =
    let f = fits_end _ _ _ _ _ c.min-start.ensures c.append.ensures.end in
    omega (arith, f.until)

pub slice_bounds-show-end : goal.slice_bounds-show-end
slice_bounds-show-end c = written_inside _ _ _ (appended_is c.append.ensures)

pub returns : goal.returns
returns c =
    let a = c.append.ensures in
    let f = fits_end _ _ _ _ _ c.min-start.ensures a.end in
    appended_by (written_shown _ _ _ _ visible _ f a.out c.show.ensures) a.buffer
