use borrow.Author.Rules.{rules}
use Rattle.listing_lines.proofs.PieceLaws.{piece_by}
use Rattle.pair_listings.specs.Tables.{entry_of}
use Rattle.pair_listings.specs.Pieces.{PieceWell}
use Rattle.pair_listings.proofs.PieceLaws.{no_piece, last_room, last_piece}
use Rattle.pair_listings.proofs.pages.Writing.last_line.Goals as goal

pub returns : goal.returns
returns c =
    let a = c.args in
    let table = entry_of a.self.table.now in
    let ws = a.self.set.words.now in
    let h = c.append_last.ensures in
    let empty = c.new-text.ensures.empty in
    piece_by _ c.new.ensures (PieceWell a.self.job table ws a.page _) (last_piece a.self.job table ws a.page h empty (search rules) c.requires)
    (λ n. no_piece a.self.job table ws a.page (λ x. last_room a.self.job table ws a.page h empty (search rules) x.room n))
