use lib.ListN.{take}
use Rattle.byte_texts.specs.Growth.{Appended}
use Rattle.listing_lines.specs.Listings.{listed}
use Rattle.listing_lines.proofs.lines.Listing.append_lines.Given as goal

abbrev pub invariant-loop-k : goal.invariant-loop-k
invariant-loop-k l = Appended l.fn.out l.out (listed l.self l.place (take l.k l.offsets))
