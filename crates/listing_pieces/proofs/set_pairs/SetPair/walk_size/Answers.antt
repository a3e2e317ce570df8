use mathlib.Core.Path.{◌∙◌}
use Rattle.listing_lines.proofs.OffsetLaws.{size_is}
use Rattle.listing_pieces.proofs.set_pairs.SetPair.walk_size.Goals as goal

pub returns : goal.returns
returns c =
    let p = c.args.self in
    c.unwrap_or.ensures ∙ size_is p.words.now p.other.now c.args.walk _ p.sound c.walk_count.ensures
