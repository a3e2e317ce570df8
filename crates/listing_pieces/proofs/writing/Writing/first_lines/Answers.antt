use mathlib.Core.Bool.{false≢true}
use mathlib.Core.Path.{refl}
use Rattle.listing_pieces.proofs.PieceLaws.{no_piece}
use Rattle.listing_pieces.proofs.StageLaws.{first_piece}
use Rattle.listing_pieces.proofs.writing.Writing.first_lines.Goals as goal

pub returns-in_err-lines : goal.returns-in_err-lines
returns-in_err-lines c = rw c.from_residual.ensures (
  no_piece _ _ _ _ _,
  λ x.
      let r = first_piece _ _ _ _ _ c.args.self.pair.sound c.places.ensures.sheet c.places.ensures.total c.missing.ensures c.first_walk.ensures c.in_err-lines.ensures c.requires refl refl in
      absurd (false≢true (r.1 x).whole),
)

pub returns : goal.returns
returns c =
    first_piece _ _ _ _ _ c.args.self.pair.sound c.places.ensures.sheet c.places.ensures.total c.missing.ensures c.first_walk.ensures c.in_ok-lines.ensures c.requires c.after_first.ensures c.page_after.ensures
