use mathlib.Core.Bool.{false≢true}
use mathlib.Core.Path.{refl}
use Rattle.listing_pieces.proofs.PieceLaws.{no_piece}
use Rattle.listing_pieces.proofs.StageLaws.{second_piece}
use Rattle.listing_pieces.proofs.writing.Writing.second_lines.Goals as goal

pub returns-in_err-lines : goal.returns-in_err-lines
returns-in_err-lines c = rw c.from_residual.ensures (
  no_piece _ _ _ _ _,
  λ x.
      let r = second_piece _ _ _ _ _ c.args.self.pair.sound c.places.ensures.sheet c.places.ensures.total (refl, refl, refl) c.in_err-lines.ensures c.requires refl in
      absurd (false≢true (r.1 x).whole),
)

pub returns : goal.returns
returns c =
    second_piece _ _ _ _ _ c.args.self.pair.sound c.places.ensures.sheet c.places.ensures.total (refl, refl, refl) c.in_ok-lines.ensures c.requires c.page_after.ensures
