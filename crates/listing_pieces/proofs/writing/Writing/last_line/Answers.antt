use borrow.Author.Rules.{rules}
use Rattle.listing_lines.proofs.PieceLaws.{piece_by}
use Rattle.listing_pieces.specs.Pieces.{PieceWell}
use Rattle.listing_pieces.proofs.PieceLaws.{last_piece, no_piece}
use Rattle.listing_pieces.proofs.SureLaws.{last_room, last_sure}
use Rattle.listing_pieces.proofs.writing.Writing.last_line.Goals as goal

pub returns : goal.returns
returns c =
    let a = c.args in
    piece_by _ c.new.ensures (PieceWell a.self.job a.self.name.now a.self.table.now a.self.pair.words.now a.self.pair.other.now a.page _)
    (λ l. (last_piece _ _ _ _ _ c.append_last.ensures c.new-text.ensures.empty (search rules) c.requires l, λ x. last_sure _ _ _ x.ready c.requires))
    (λ n. (no_piece _ _ _ _ _, λ x. absurd (last_room _ _ _ _ _ x.short c.append_last.ensures c.new-text.ensures.empty (search rules) x.room n)))
