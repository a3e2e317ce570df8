use borrow.Author.Rules.{rules}
use mathlib.Core.Path.{refl, sym, ap, ◌∙◌}
use native.Mathlib.Omega.{arith}
use lib.ListN.{length, replicate}
use Rattle.listing_lines.proofs.OkLaws.{taken}
use Rattle.listing_lines.proofs.PieceLaws.{piece_by}
use Rattle.next_many.specs.Calls.{next_many_of, accepted_many}
use Rattle.next_many.specs.Rules.{many_outcome}
use Rattle.pair_listings.specs.Tables.{entry_of}
use Rattle.pair_listings.specs.Pieces.{PieceWell}
use Rattle.pair_listings.proofs.PieceLaws.{no_piece, lines_room, lines_piece}
use Rattle.pair_listings.proofs.WalkLaws.{Given, given_128, accepted, untaken}
use Rattle.pair_listings.proofs.pages.Writing.next_lines.Goals as goal
use Rattle.pair_listings.proofs.pages.Writing.next_lines.Goals.{In_ok-many}

known : (c : In_ok-many)
    → let a = c.args in
    Given a.self.set.words.now a.page.records c.ones_next_many.new.out (accepted_many c.in_ok-many.many)
known c =
    let a = c.args in
    given_128 a.self.set.words.now a.page.records (replicate 128 0) refl
    (ap (λ r. many_outcome (next_many_of a.page.records r) c.ones_next_many.new.out) (sym (taken _ c.in_ok-many.ensures.value)) ∙ c.ones_next_many.ensures) refl

pub returns-in_err-many : goal.returns-in_err-many
returns-in_err-many c =
    let a = c.args in
    rw c.from_residual.ensures
    (no_piece a.self.job (entry_of a.self.table.now) a.self.set.words.now a.page
    (λ x. untaken a.page.records _ c.in_err-many.ensures.value (accepted a.self.set.words.now a.page.records (replicate 128 0) c.ones_next_many.ensures a.self.set.sound x.ready.asked)))

pub slice_bounds-offsets-end : goal.slice_bounds-offsets-end
slice_bounds-offsets-end c = (known (goal.at.slice_bounds-offsets-end c).In_ok-many).took.enough

pub slice_bounds-append_pair_lines-end : goal.slice_bounds-append_pair_lines-end
slice_bounds-append_pair_lines-end c =
    let g = known (goal.at.slice_bounds-append_pair_lines-end c).In_ok-many in
    g.took.counted ∙ sym (ap length g.took.offsets)

pub overflow_add-page : goal.overflow_add-page
overflow_add-page c =
    omega (arith, (known (goal.at.overflow_add-page c).In_ok-many).took.most, c.if-page-gt4294967296.false)

pub returns : goal.returns
returns c =
    let g = known (goal.at.returns c).In_ok-many in
    let a = c.args in
    let table = entry_of a.self.table.now in
    let ws = a.self.set.words.now in
    let h = c.append_pair_lines.ensures (omega (arith, g.took.most, g.took.counted, ap length g.took.offsets, c.if-page-gt4294967296.false)) in
    let empty = c.new-text.ensures.empty in
    piece_by _ c.new.ensures (PieceWell a.self.job table ws a.page _) (lines_piece a.self.job table ws a.page g c.size.ensures empty h (search rules) c.requires c.page_after-next.ensures)
    (λ n. no_piece a.self.job table ws a.page (λ x. lines_room a.self.job table ws a.page g c.size.ensures empty h (search rules) x.room n))
