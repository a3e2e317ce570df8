use Rattle.pair_listings.specs.Tables.{entry_of}
use Rattle.pair_listings.proofs.UnpairedLaws.{Searching}
use Rattle.pair_listings.proofs.unpaired.first_unpaired.Given as goal

abbrev pub invariant-loop-p : goal.invariant-loop-p
invariant-loop-p l = Searching (entry_of l.to) l.words l.from l.p
