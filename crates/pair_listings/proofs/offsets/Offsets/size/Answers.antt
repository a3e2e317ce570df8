use mathlib.Core.Path.{◌∙◌}
use Rattle.whole_walks.specs.declared.walk.Walk.TheVariants.{Ones}
use Rattle.listing_lines.proofs.OffsetLaws.{size_is}
use Rattle.pair_listings.proofs.WalkLaws.{asked_twice}
use Rattle.pair_listings.proofs.offsets.Offsets.size.Goals as goal

pub returns : goal.returns
returns c =
    let s = c.args.self in
    c.unwrap_or.ensures ∙ size_is s.words.now _ Ones _ (asked_twice _ s.sound) c.walk_count.ensures
