use Rattle.listing_pieces.proofs.SetLaws.{both_swap}
use Rattle.listing_pieces.proofs.set_pairs.SetPair.swapped.Goals as goal

pub invariant_of-result : goal.invariant_of-result
invariant_of-result c = record { sound = both_swap _ _ c.args.self.sound }
